-- A row of pages, whatever they hold.
use Rattle.std.specs.Prelude.{ℕ, suc, ◌+◌, cond, List, [], ◌∷◌, ◌++◌, length, take, drop, Some, None, Option, ◌==◌, nat_lt}
use Rattle.rows.specs.declared.page.Page.{Page}

abbrev pub page : {X : Type 0} → ℕ → X → Page X
page x z = record { name = x; numbers = z }

-- the place of the first page with the name, or the number of pages
abbrev pub place : {X : Type 0} → ℕ → List (Page X) → ℕ
place x [] = 0
place x (p ∷ ps) = cond (p.name == x) 0 (suc (place x ps))

-- the same as an answer: none where no page has the name
abbrev pub found : {X : Type 0} → ℕ → List (Page X) → Option ℕ
found x ps = cond (nat_lt (place x ps) (length ps)) (Some (place x ps)) None

-- the page at i left out, later ones moved up by one, and a last one behind them
abbrev pub moved_up : {X : Type 0} → ℕ → Page X → List (Page X) → List (Page X)
moved_up i last ps = (take i ps ++ drop (i + 1) ps) ++ (last ∷ [])

-- the same of a page that there is; past the row nothing changes
abbrev pub taken_out : {X : Type 0} → ℕ → Page X → List (Page X) → List (Page X)
taken_out i last ps = cond (nat_lt i (length ps)) (moved_up i last ps) ps
