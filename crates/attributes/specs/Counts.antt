-- The numbers of lists of marks, and which numbers are those of a tally.
use Rattle.std.specs.Prelude.{◌+◌, ◌≤◌, Bool, true, cond, ◌&&◌, List, [], ◌∷◌, nat_le}
use Rattle.inspection.specs.Tallied.{Tallied}
use Rattle.attributes.specs.declared.counts.Counts.{Counts}

-- the numbers of no marks
abbrev pub none : Counts
none = record { n = 0; z = 0 }

-- the numbers of one mark, which says whether the unit conforms
abbrev pub alone : Bool → Counts
alone r = record { n = 1; z = cond r 0 1 }

-- the numbers of two lists of marks put together
abbrev pub together : Counts → Counts → Counts
together x y = record { n = x.n + y.n; z = x.z + y.z }

-- the numbers of a list of marks
abbrev pub marked : List Bool → Counts
marked [] = none
marked (r ∷ rs) = together (alone r) (marked rs)

-- the numbers that a tally may have
abbrev pub Sound : Counts → Type 0
Sound x = (x.n ≤ 50) × (x.z ≤ x.n)

-- the same as a test
abbrev pub sound : Counts → Bool
sound x = nat_le x.n 50 && nat_le x.z x.n

-- what is kept of lists of marks: any mark is taken
abbrev pub kept : Tallied Bool Counts
kept = record {
  takes = λ _. true;
  total = marked;
  join = together;
  count = λ x. x.n;
}
