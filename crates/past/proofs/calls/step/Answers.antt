use Rattle.std.proofs.Common.{length, refl}
use Rattle.past.proofs.Runs.{went_on}
use Rattle.past.proofs.calls.step.Goals as goal
use Rattle.past.proofs.calls.step.Goals.{in-Open, in-Read, in-Strike, in-Pour}

pub returns : goal.returns
returns g c ls h =
    let b = c.args.bench in
    let m = g.M.Method.meaning b.method in
    let st = g.M.Method.stands in
    let size = length c.args.pages.now in
    elim c.match-call.branch [
      | in-Open w ↦ went_on b m st b.n size ls c.args.call _ c.match-call.pages _ w.in-Open.is w.pages-is refl (w.open.ensures.ledger ls h).1
      | in-Read w ↦ went_on b m st b.n size ls c.args.call _ c.match-call.pages _ w.in-Read.is w.pages-is refl (w.read.ensures.ledger ls h).1
      | in-Strike w ↦ went_on b m st b.n size ls c.args.call _ c.match-call.pages _ w.in-Strike.is w.pages-is refl (w.strike.ensures.ledger ls h).1
      | in-Pour w ↦ went_on b m st b.n size ls c.args.call _ c.match-call.pages _ w.in-Pour.is w.pages-is refl (w.pour.ensures.ledger ls h).1
    ]
