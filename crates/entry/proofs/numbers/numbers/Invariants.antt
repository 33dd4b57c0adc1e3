use Rattle.std.proofs.Common.{◌≡◌, ◌-◌, length, take}
use Rattle.fault.proofs.Passed.{with}
use Rattle.entry.specs.Numbers.{numbers_of}
use Rattle.entry.proofs.numbers.numbers.Given as goal

abbrev pub invariant-loop-i : goal.invariant-loop-i
invariant-loop-i g l = (numbers_of g.row.N l.text ≡ with (take l.i l.found) (numbers_of (g.row.N - l.i) l.rest)) × (length l.found ≡ g.row.N)
