-- What a method on readings means, from the numbers of readings that it allows and what it says of sums.
use Rattle.std.specs.Prelude.{ℕ, Bool, ℤ}
use Rattle.inspection.specs.Tallied.{inspected}
use Rattle.method.specs.declared.verdict.Verdict.{Verdict}
use Rattle.method.specs.Meaning.{Meaning}
use Rattle.variables.specs.declared.sums.Sums.{Sums}
use Rattle.variables.specs.Sums.{kept}

abbrev pub variables : (ℕ → Bool) → (Sums → Verdict) → Meaning ℤ Sums
variables = inspected kept
