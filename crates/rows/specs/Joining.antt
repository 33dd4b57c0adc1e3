-- The tallies of a row, joined one after another.
use Rattle.std.specs.Prelude.{Bool, cond, List, [], ◌∷◌, Ok, Err, Result}
use Rattle.fault.specs.Located.{then}
use Rattle.fault.specs.declared.Fault.{Fault}
use Rattle.fault.specs.declared.Fault.TheVariants.{RowInconsistent}
use Rattle.method.specs.Answers.{joined}
use Rattle.method.specs.Meaning.{Meaning}
use Rattle.rows.specs.declared.page.Page.{Page}

-- the tallies of the pages joined to x; refused where a page's numbers are no tally, or a method's joining is
abbrev pub sum_of : {R X : Type 0} → Meaning R X → (X → Bool) → X → List (Page X) → Result X Fault
sum_of m st x [] = Ok x
sum_of m st x (p ∷ ps) = cond (st p.numbers) (then (λ y. sum_of m st y ps) (joined m x p.numbers)) (Err (RowInconsistent 0))
