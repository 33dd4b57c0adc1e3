-- A whole sheet, read alone.
use Rattle.std.specs.Prelude.{◌≡◌, ℕ, zero, suc, ◌+◌, ◌⊎◌, List, [], ◌∷◌, map, Ok, Err, vec_items, Result, Vec}
use Rattle.std.specs.declared.alloc.Global.{Global}
use Rattle.fault.specs.Located.{then}
use Rattle.fault.specs.declared.Fault.{Fault}
use Rattle.fault.specs.declared.Fault.TheVariants.{NoMemory}
use Rattle.entry.specs.declared.kinds.Entry.{Entry}
use Rattle.sheet.specs.Reading.{Item, item_of, step_at}
use Rattle.sheet.specs.Table.{table_of}
use Rattle.sheet.specs.declared.order.Stage.{Stage}
use Rattle.sheet.specs.declared.order.Stage.TheVariants.{BeforePlan}

-- the k entries from i on, at a stage, up to the first that is refused
unfoldable pub items_from : List ℕ → ℕ → ℕ → Stage → Result (List Item) Fault
items_from s zero i t = Ok []
items_from s (suc k) i t = then (λ p. then (λ xs. Ok (p.0 ∷ xs)) (items_from s k (i + 1) p.1)) (step_at s i t)

-- the entries of a sheet, or why it is refused
abbrev pub sheet_of : List ℕ → Result (List Item) Fault
sheet_of s = then (λ m. items_from s m 0 BeforePlan) (table_of s)

abbrev pub listed : Result (Vec Entry Global) Fault → Result (List Item) Fault
listed (Ok v) = Ok (map item_of (vec_items v))
listed (Err f) = Err f

-- an answer as it should be, unless memory was wanting
abbrev pub Answered : {X : Type 0} → Result X Fault → Result X Fault → Type 0
Answered r x = (r ≡ Err NoMemory) ⊎ (r ≡ x)
