-- The criterion of the mean, made for n readings that are held to the mean c.
-- In the formulas N, S and Q are the count, the sum and the sum of squares in x, and T is Student's fractile in
-- thousandths for n - 1 degrees of freedom.
use Rattle.std.specs.Prelude.{ℕ, ◌-◌, Bool, cond, ◌&&◌, ℤ, pos, ◌-ℤ◌, ◌*ℤ◌, ◌≤ℤ◌, Ok, Err, Result, ◌==◌, int_le, unsigned_abs}
use Rattle.fault.specs.declared.Fault.{Fault}
use Rattle.fault.specs.declared.Fault.TheVariants.{PlanConstant}
use Rattle.method.specs.declared.verdict.Verdict.{Verdict}
use Rattle.method.specs.Meaning.{Meaning}
use Rattle.method.specs.Verdicts.{Exactly, compared}
use Rattle.variables.specs.declared.sums.Sums.{Sums}
use Rattle.variables.specs.Sums.{reading, spread}
use Rattle.variables.specs.Methods.{variables}
use Rattle.criteria.specs.Criteria.{above}
use Rattle.criteria.specs.Student.{student}

-- T × T × D, where D = N × Q - S × S
abbrev pub scatter : ℕ → Sums → ℤ
scatter n x = pos (student (n - 1)) *ℤ pos (student (n - 1)) *ℤ spread x

-- 1,000,000 × (N - 1) × M × M, where M = S - N × C
abbrev pub departure : ℤ → Sums → ℤ
departure c x = pos 1000000 *ℤ (pos x.n -ℤ pos 1) *ℤ above c x *ℤ above c x

-- by one comparison
abbrev pub judged : ℕ → ℤ → Sums → Verdict
judged n c x = compared (departure c x) (scatter n x)

-- what the readings have to meet: 1,000,000 × (N - 1) × M × M is at most T × T × D
abbrev pub Upheld : ℕ → ℤ → Sums → Type 0
Upheld n c x = departure c x ≤ℤ scatter n x

-- the verdict is yes exactly when the readings meet that
abbrev pub Tells : Verdict → ℕ → ℤ → Sums → Type 0
Tells v n c x = Exactly v (Upheld n c x)

-- the constants that a plan may have: the mean is a reading, and n is 2 to 21
abbrev pub constants : ℤ → ℤ → Bool
constants n c = reading c && (int_le (pos 2) n && int_le n (pos 21))

-- the constants of the criterion that is made of n and c, or the refusal
abbrev pub newly : ℤ → ℤ → Result (ℕ × ℤ) Fault
newly n c = cond (constants n c) (Ok (unsigned_abs n, c)) (Err (PlanConstant 0))

-- only as many readings as it was made for may be planned
abbrev pub allowed : ℕ → ℕ → Bool
allowed n k = k == n

-- what the method means
abbrev pub mean : ℕ → ℤ → Meaning ℤ Sums
mean n c = variables (allowed n) (judged n c)
