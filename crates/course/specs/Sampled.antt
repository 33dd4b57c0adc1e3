-- What a judged lot tells of the readings that stand.
use Rattle.std.specs.Prelude.{◌≡◌, ℕ, Bool, true, List, length, Option}
use Rattle.std.specs.List.Sorted.{IsPermutation}
use Rattle.method.specs.Meaning.{Meaning}
use Rattle.method.specs.Verdicts.{yes}
use Rattle.method.specs.declared.verdict.Verdict.{Verdict}
use Rattle.rows.specs.declared.page.Page.{Page}
use Rattle.bench.specs.Ledger.{Holds, Line, standing}
use Rattle.entry.specs.declared.kinds.Said.{Said}
use Rattle.course.specs.Booked.{readings_in}

-- the pages qs show lines in which the readings of the entries xs stand, repeats counted, as many as planned; the
-- verdict v is the method's of their total, and it is yes exactly when they meet what the plan asks
pub record Sampled {R X : Type 0} (m : Meaning R X) (st : X → Bool) (f : Said → Option R) (n : ℕ) (xs : List Said) (qs : List (Page X)) (v : Verdict) (Meets : List R → Type 0) : Type 0 where
  pub lines : List (Line R)
  pub shown : Holds m st n lines qs
  pub stand : IsPermutation (readings_in f xs) (standing lines)
  pub planned : length (standing lines) ≡ n
  pub verdict : v ≡ m.verdict (m.total (standing lines))
  pub met : yes v ≡ true → Meets (standing lines)
  pub unmet : Meets (standing lines) → yes v ≡ true
