use Rattle.std.proofs.Common.{◌≡◌, drop}
use Rattle.rows.specs.Checks.{room}
use Rattle.rows.proofs.checking.room.Given as goal

abbrev pub invariant-loop-p : goal.invariant-loop-p
invariant-loop-p g l = let m = g.M.Method.meaning l.method in room m g.M.Method.stands l.n l.pages ≡ room m g.M.Method.stands l.left (drop l.p-index l.pages)
