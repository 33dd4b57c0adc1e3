use Rattle.std.proofs.Common.{◌≡◌, false, drop}
use Rattle.rows.specs.Checks.{in_order}
use Rattle.rows.proofs.checking.orderly.Given as goal

abbrev pub invariant-loop-p : goal.invariant-loop-p
invariant-loop-p g l = in_order false l.pages ≡ in_order l.blank (drop l.p-index l.pages)
