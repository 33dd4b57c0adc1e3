use Rattle.std.proofs.Common.{length, sym, subst, refl}
use Rattle.bench.specs.Ledger.{reading}
use Rattle.course.specs.Course.{Carried, booking}
use Rattle.course.proofs.Drums.{reads_on}
use Rattle.course.proofs.entries.Work.enter.Goals as goal

pub returns : goal.returns
returns g c =
    let b = c.args.self.now.bench.now in
    let m = g.M.Method.meaning b.method in
    let ps = c.args.self.now.pages.now in
    let x = c.args.self.now.current in (
      refl,
      refl,
      c.read.auto.pages,
      λ ls h.
          let k = c.read.ensures.ledger ls h in
          subst (λ o. Carried m g.M.Method.stands b.n ls x c.read.new.pages c.read.result (booking m b.n (length ps) o x ls)) (sym c.in_ok-reading.ensures.ok_part)
          (reads_on m g.M.Method.stands b.n (reading m b.n (length ps) x c.in_ok-reading.reading ls) x ls c.read.new.pages c.read.result k.0 k.1),
    )
