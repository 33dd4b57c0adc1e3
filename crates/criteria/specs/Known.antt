-- The criterion of known deviation, with the lower limit l, the deviation s and the factor of k thousandths.
-- In the formulas N and S are the count and the sum in x, L is l, σ is s and K is k.
use Rattle.std.specs.Prelude.{ℕ, Bool, cond, ◌&&◌, ℤ, pos, ◌*ℤ◌, ◌≤ℤ◌, Ok, Err, Result, nat_le}
use Rattle.fault.specs.declared.Fault.{Fault}
use Rattle.fault.specs.declared.Fault.TheVariants.{PlanConstant}
use Rattle.method.specs.declared.verdict.Verdict.{Verdict}
use Rattle.method.specs.Meaning.{Meaning}
use Rattle.method.specs.Verdicts.{Exactly, compared}
use Rattle.variables.specs.declared.sums.Sums.{Sums}
use Rattle.variables.specs.Sums.{reading}
use Rattle.variables.specs.Methods.{variables}
use Rattle.criteria.specs.Criteria.{above, deviation, factor}

-- K × σ × N
abbrev pub scatter : ℤ → ℤ → Sums → ℤ
scatter s k x = k *ℤ s *ℤ pos x.n

-- 1,000 × A, where A = S - N × L
abbrev pub margin : ℤ → Sums → ℤ
margin l x = pos 1000 *ℤ above l x

-- by one comparison
abbrev pub judged : ℤ → ℤ → ℤ → Sums → Verdict
judged l s k x = compared (scatter s k x) (margin l x)

-- what the readings have to meet: K × σ × N is at most 1,000 × A
abbrev pub Upheld : ℤ → ℤ → ℤ → Sums → Type 0
Upheld l s k x = scatter s k x ≤ℤ margin l x

-- the verdict is yes exactly when the readings meet that
abbrev pub Tells : Verdict → ℤ → ℤ → ℤ → Sums → Type 0
Tells v l s k x = Exactly v (Upheld l s k x)

-- the constants that a plan may have: the limit is a reading, s a deviation, and k a factor
abbrev pub constants : ℤ → ℤ → ℤ → Bool
constants l s k = reading l && (deviation s && factor k)

-- the constants of the criterion that is made of l, s and k, or the refusal
abbrev pub newly : ℤ → ℤ → ℤ → Result (ℤ × ℤ × ℤ) Fault
newly l s k = cond (constants l s k) (Ok (l, s, k)) (Err (PlanConstant 0))

-- 1 to 50 readings may be planned
abbrev pub allowed : ℕ → Bool
allowed n = nat_le 1 n && nat_le n 50

-- what the method means
abbrev pub known : ℤ → ℤ → ℤ → Meaning ℤ Sums
known l s k = variables allowed (judged l s k)
