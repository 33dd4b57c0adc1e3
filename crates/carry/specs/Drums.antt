-- Drums with the numbers of their readings.
use Rattle.std.specs.Prelude.{ℕ, ◌+◌, ◌≤◌, Bool, cond, ◌&&◌, List, ℤ, pos, Ok, Err, Result, int_le, slice_index_or, slice_set, unsigned_abs}
use Rattle.std.specs.List.{All}
use Rattle.fault.specs.declared.Fault.{Fault}
use Rattle.fault.specs.declared.Fault.TheVariants.{NameRange}
use Rattle.carry.specs.declared.report.Drum.{Drum}

-- a drum's name is 1 to 255
abbrev pub named : ℤ → Bool
named z = int_le (pos 1) z && int_le z (pos 255)

abbrev pub name_of : ℤ → Result ℕ Fault
name_of z = cond (named z) (Ok (unsigned_abs z)) (Err (NameRange 0))

abbrev pub drum : ℕ → ℕ → Drum
drum x c = record { name = x; count = c }

-- one reading more on a drum, and on the drum at a place
abbrev pub one_more : Drum → Drum
one_more d = drum d.name (d.count + 1)

abbrev pub counted : ℕ → List Drum → List Drum
counted i ds = slice_set ds i (one_more (slice_index_or ds i (drum 0 0)))

-- no drum has more readings than that
abbrev pub Counted : ℕ → List Drum → Type 0
Counted c ds = All (λ d. d.count ≤ c) ds
