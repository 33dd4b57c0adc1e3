-- Which rows are consistent.
use Rattle.std.specs.Prelude.{ℕ, ◌-◌, Bool, true, false, cond, not, ◌&&◌, ◌||◌, List, [], ◌∷◌, length, Some, None, Err, Option, Result, ◌==◌, nat_le}
use Rattle.std.specs.Option.{ok_or}
use Rattle.fault.specs.declared.Fault.{Fault}
use Rattle.fault.specs.declared.Fault.TheVariants.{RowInconsistent, RowSize}
use Rattle.method.specs.Meaning.{Meaning}
use Rattle.rows.specs.Pages.{place}
use Rattle.rows.specs.declared.page.Page.{Page}

-- no named page follows a blank one; b says that a blank one came before
abbrev pub in_order : {X : Type 0} → Bool → List (Page X) → Bool
in_order b [] = true
in_order b (p ∷ ps) = cond (p.name == 0) (in_order true ps) (cond b false (in_order b ps))

-- no name stands twice
abbrev pub once : {X : Type 0} → List (Page X) → Bool
once [] = true
once (p ∷ ps) = (p.name == 0 || place p.name ps == length ps) && once ps

-- a page fits into k readings: its numbers are a tally (st), it has none where it is blank, and at most k
abbrev pub fits : {R X : Type 0} → Meaning R X → (X → Bool) → Page X → ℕ → Bool
fits m st p k = st p.numbers && ((not (p.name == 0) || m.count p.numbers == 0) && nat_le (m.count p.numbers) k)

-- k less the counts of all pages, where each page fits into what the pages before it have left
abbrev pub room : {R X : Type 0} → Meaning R X → (X → Bool) → ℕ → List (Page X) → Option ℕ
room m st k [] = Some k
room m st k (p ∷ ps) = cond (fits m st p k) (room m st (k - m.count p.numbers) ps) None

-- how many of n readings are free on a row of 1 to 64 pages that is consistent
abbrev pub checked : {R X : Type 0} → Meaning R X → (X → Bool) → ℕ → List (Page X) → Result ℕ Fault
checked m st n ps =
    cond (nat_le 1 (length ps) && nat_le (length ps) 64) (cond (in_order false ps && once ps) (ok_or (room m st n ps) (RowInconsistent 0)) (Err (RowInconsistent 0))) (Err (RowSize 0))
