use Rattle.std.proofs.Common.{arith}
use Rattle.std.proofs.lemmas.Bool.Decides.{nat_tests}
use Rattle.bench.proofs.Follows.{close_agrees}
use Rattle.bench.proofs.Bench.close.Goals as goal

pub returns-in-Ok-clause-ledger : goal.returns-in-Ok-clause-ledger
returns-in-Ok-clause-ledger g c ls h =
    let b = c.args.self in
    let agrees = close_agrees (g.M.Method.meaning b.method) g.M.Method.stands (g.M.Method.laws b.method) b.n b.high ls c.args.pages.now h.shows h.sound in
    (grind (arith, nat_tests, agrees, c.in-Ok.ensures, h.shows.few), grind (arith, nat_tests, agrees, c.in-Ok.ensures))

pub returns-in-Err-clause-ledger : goal.returns-in-Err-clause-ledger
returns-in-Err-clause-ledger g c ls h =
    let b = c.args.self in
    let agrees = close_agrees (g.M.Method.meaning b.method) g.M.Method.stands (g.M.Method.laws b.method) b.n b.high ls c.args.pages.now h.shows h.sound in
    (grind (arith, nat_tests, agrees, c.in-Err.ensures), grind (arith, nat_tests, agrees, c.in-Err.ensures))
