use Rattle.std.proofs.Common.{◌≡◌, ◌-◌}
use Rattle.sheet.specs.Table.{misplaced, table_of, unless}
use Rattle.sheet.proofs.table.table.Given as goal

abbrev pub invariant-loop-i : goal.invariant-loop-i
invariant-loop-i l = table_of l.sheet ≡ unless l.count (misplaced l.sheet (l.count - l.i) l.i)
