-- The line that a refusal is printed as: the word refused, its number and its entry, with single spaces.
use Rattle.std.specs.Prelude.{ℕ, List, ◌++◌, codes}
use Rattle.std.specs.Fmt.{decimal}
use Rattle.fault.specs.declared.Fault.{Fault}
use Rattle.fault.specs.Faults.{entry, number}

abbrev pub printed : Fault → List ℕ
printed f = codes "refused " ++ decimal (number f) ++ codes " " ++ decimal (entry f)
