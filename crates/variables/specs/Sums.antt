-- The numbers of lists of readings, and which numbers are those of a tally.
use Rattle.std.specs.Prelude.{◌+◌, ◌*◌, ◌≤◌, Bool, ◌&&◌, List, [], ◌∷◌, ℤ, pos, ◌+ℤ◌, ◌-ℤ◌, ◌*ℤ◌, neg_ℤ, ◌≤ℤ◌, int_le, nat_le, unsigned_abs}
use Rattle.inspection.specs.Tallied.{Tallied}
use Rattle.variables.specs.declared.sums.Sums.{Sums}

-- a reading is from -2,000 to 2,000
abbrev pub reading : ℤ → Bool
reading r = int_le (neg_ℤ (pos 2000)) r && int_le r (pos 2000)

-- the numbers of no readings
abbrev pub none : Sums
none = record { n = 0; s = pos 0; q = 0 }

-- the numbers of one reading
abbrev pub alone : ℤ → Sums
alone r = record { n = 1; s = r; q = unsigned_abs r * unsigned_abs r }

-- the numbers of two lists of readings put together
abbrev pub together : Sums → Sums → Sums
together x y = record { n = x.n + y.n; s = x.s +ℤ y.s; q = x.q + y.q }

-- the numbers of a list of readings
abbrev pub summed : List ℤ → Sums
summed [] = none
summed (r ∷ rs) = together (alone r) (summed rs)

-- D = N × Q - S × S
abbrev pub spread : Sums → ℤ
spread x = pos x.n *ℤ pos x.q -ℤ x.s *ℤ x.s

-- the numbers that a tally may have
abbrev pub Sound : Sums → Type 0
Sound x = (x.n ≤ 50) × (unsigned_abs x.s ≤ 2000 * x.n) × (x.q ≤ 4000000 * x.n) × (pos 0 ≤ℤ spread x)

-- the same as a test
abbrev pub sound : Sums → Bool
sound x = nat_le x.n 50 && (nat_le (unsigned_abs x.s) (2000 * x.n) && (nat_le x.q (4000000 * x.n) && int_le (pos 0) (spread x)))

-- what is kept of lists of readings
abbrev pub kept : Tallied ℤ Sums
kept = record {
  takes = reading;
  total = summed;
  join = together;
  count = λ x. x.n;
}
