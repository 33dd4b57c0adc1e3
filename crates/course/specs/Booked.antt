-- Which readings the entries of a sheet book.
use Rattle.std.specs.Prelude.{Bool, List, [], ◌∷◌, ◌++◌, ℤ, Some, None, Option}
use Rattle.entry.specs.declared.kinds.Said.{Said}
use Rattle.through.specs.declared.difference.Pair.{Pair as Readings}
use Rattle.entry.specs.declared.kinds.Said.TheVariants.{Planned, Drum, Reading, Pair, Mark}

-- R books a number
abbrev pub number_in : Said → Option ℤ
number_in (Planned p) = None
number_in (Drum a) = None
number_in (Reading r) = Some r
number_in (Pair a b) = None
number_in (Mark c) = None

-- M books a mark
abbrev pub mark_in : Said → Option Bool
mark_in (Planned p) = None
mark_in (Drum a) = None
mark_in (Reading r) = None
mark_in (Pair a b) = None
mark_in (Mark c) = Some c

-- P books a pair
abbrev pub pair_in : Said → Option Readings
pair_in (Planned p) = None
pair_in (Drum a) = None
pair_in (Reading r) = None
pair_in (Pair a b) = Some (record { first = a; second = b })
pair_in (Mark c) = None

module _ {R : Type 0} where
  abbrev pub some_of : Option R → List R
  some_of None = []
  some_of (Some r) = r ∷ []

  -- the readings that one entry books; a drum books none
  abbrev pub booked_by : (Said → Option R) → Said → List R
  booked_by f (Planned p) = some_of (f (Planned p))
  booked_by f (Drum a) = []
  booked_by f (Reading r) = some_of (f (Reading r))
  booked_by f (Pair a b) = some_of (f (Pair a b))
  booked_by f (Mark c) = some_of (f (Mark c))

  -- the readings that entries book, in their order
  abbrev pub readings_in : (Said → Option R) → List Said → List R
  readings_in f [] = []
  readings_in f (x ∷ xs) = booked_by f x ++ readings_in f xs
