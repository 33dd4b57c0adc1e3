use Rattle.std.proofs.Common.{◌≡◌, drop}
use Rattle.rows.specs.Checks.{once}
use Rattle.rows.proofs.checking.apart.Given as goal

abbrev pub invariant-loop-i : goal.invariant-loop-i
invariant-loop-i g l = once l.pages ≡ once (drop l.i l.pages)
