-- The criterion of unknown deviation, with the lower limit l and the factor of k thousandths.
-- In the formulas N, S and Q are the count, the sum and the sum of squares in x, L is l and K is k.
use Rattle.std.specs.Prelude.{ℕ, Bool, cond, ◌&&◌, ℤ, pos, ◌-ℤ◌, ◌*ℤ◌, ◌≤ℤ◌, Ok, Err, Result, int_le, nat_le}
use Rattle.fault.specs.declared.Fault.{Fault}
use Rattle.fault.specs.declared.Fault.TheVariants.{PlanConstant}
use Rattle.method.specs.declared.verdict.Verdict.{Verdict}
use Rattle.method.specs.declared.verdict.Verdict.TheVariants.{NotAccepted}
use Rattle.method.specs.Meaning.{Meaning}
use Rattle.method.specs.Verdicts.{Exactly, compared}
use Rattle.variables.specs.declared.sums.Sums.{Sums}
use Rattle.variables.specs.Sums.{reading, spread}
use Rattle.variables.specs.Methods.{variables}
use Rattle.criteria.specs.Criteria.{above, factor}

-- K × K × N × D, where D = N × Q - S × S
abbrev pub scatter : ℤ → Sums → ℤ
scatter k x = k *ℤ k *ℤ pos x.n *ℤ spread x

-- 1,000,000 × (N - 1) × A × A, where A = S - N × L
abbrev pub margin : ℤ → Sums → ℤ
margin l x = pos 1000000 *ℤ (pos x.n -ℤ pos 1) *ℤ above l x *ℤ above l x

-- not accepted where A is negative, else by one comparison
abbrev pub judged : ℤ → ℤ → Sums → Verdict
judged l k x = cond (int_le (pos 0) (above l x)) (compared (scatter k x) (margin l x)) NotAccepted

-- what the readings have to meet: A is not negative, and K × K × N × D is at most 1,000,000 × (N - 1) × A × A
abbrev pub Upheld : ℤ → ℤ → Sums → Type 0
Upheld l k x = (pos 0 ≤ℤ above l x) × (scatter k x ≤ℤ margin l x)

-- the verdict is yes exactly when the readings meet that
abbrev pub Tells : Verdict → ℤ → ℤ → Sums → Type 0
Tells v l k x = Exactly v (Upheld l k x)

-- the constants that a plan may have: the limit is a reading, and k a factor
abbrev pub constants : ℤ → ℤ → Bool
constants l k = reading l && factor k

-- the constants of the criterion that is made of l and k, or the refusal
abbrev pub newly : ℤ → ℤ → Result (ℤ × ℤ) Fault
newly l k = cond (constants l k) (Ok (l, k)) (Err (PlanConstant 0))

-- 2 to 50 readings may be planned
abbrev pub allowed : ℕ → Bool
allowed n = nat_le 2 n && nat_le n 50

-- what the method means
abbrev pub unknown : ℤ → ℤ → Meaning ℤ Sums
unknown l k = variables allowed (judged l k)
