-- The line that a drum is printed as: the letter D, its name and its count, with single spaces.
use Rattle.std.specs.Prelude.{ℕ, List, ◌++◌, codes}
use Rattle.std.specs.Fmt.{decimal}
use Rattle.carry.specs.declared.report.Drum.{Drum}

abbrev pub printed : Drum → List ℕ
printed d = codes "D " ++ decimal d.name ++ codes " " ++ decimal d.count
