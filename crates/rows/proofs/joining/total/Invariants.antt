use Rattle.std.proofs.Common.{◌≡◌, [], drop}
use Rattle.rows.specs.Joining.{sum_of}
use Rattle.rows.proofs.joining.total.Given as goal

abbrev pub invariant-loop-p : goal.invariant-loop-p
invariant-loop-p g l = let m = g.M.Method.meaning l.method in sum_of m g.M.Method.stands (m.total []) l.pages ≡ sum_of m g.M.Method.stands (g.M.Method.of l.sum) (drop l.p-index l.pages)
