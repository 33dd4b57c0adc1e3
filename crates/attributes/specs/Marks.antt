-- The method of marks, whose constant Ac is the most units of the sample that may not conform.
use Rattle.std.specs.Prelude.{ℕ, ◌≤◌, Bool, cond, ◌&&◌, ℤ, pos, Ok, Err, Result, int_le, nat_le, nat_lt, unsigned_abs}
use Rattle.fault.specs.declared.Fault.{Fault}
use Rattle.fault.specs.declared.Fault.TheVariants.{PlanConstant}
use Rattle.method.specs.declared.verdict.Verdict.{Verdict}
use Rattle.method.specs.Meaning.{Meaning}
use Rattle.method.specs.Verdicts.{Exactly, compared}
use Rattle.attributes.specs.declared.counts.Counts.{Counts}
use Rattle.attributes.specs.Counts.{kept}
use Rattle.inspection.specs.Tallied.{inspected}

-- by one comparison: those that do not conform with Ac
abbrev pub judged : ℕ → Counts → Verdict
judged most x = compared (pos x.z) (pos most)

-- what the marks have to meet: at most Ac do not conform
abbrev pub Upheld : ℕ → Counts → Type 0
Upheld most x = x.z ≤ most

-- the verdict is yes exactly when the marks meet that
abbrev pub Tells : Verdict → ℕ → Counts → Type 0
Tells v most x = Exactly v (Upheld most x)

-- the constant that a plan may have: 0 to 49
abbrev pub constants : ℤ → Bool
constants a = int_le (pos 0) a && int_le a (pos 49)

-- the constant of the method that is made of a, or the refusal
abbrev pub newly : ℤ → Result ℕ Fault
newly a = cond (constants a) (Ok (unsigned_abs a)) (Err (PlanConstant 0))

-- more marks are planned than may not conform
abbrev pub allowed : ℕ → ℕ → Bool
allowed most n = nat_lt most n && nat_le n 50

-- what the method means: any mark is taken
abbrev pub marks : ℕ → Meaning Bool Counts
marks most = inspected kept (allowed most) (judged most)
