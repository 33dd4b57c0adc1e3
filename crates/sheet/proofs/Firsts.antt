-- A sheet that begins with a plan: its first entry, and the whole of it.
use Rattle.std.proofs.Common.{◌≡◌, ℕ, suc, ◌+◌, ◌-◌, ◌<◌, Bool, true, false, cond, List, ◌∷◌, None, Ok, Err, Result, refl, ap, ◌∙◌, arith}
use Rattle.fault.specs.Located.{then}
use Rattle.fault.specs.declared.Fault.{Fault}
use Rattle.entry.specs.declared.kinds.Plan.{Plan}
use Rattle.entry.specs.declared.kinds.Said.{Said}
use Rattle.entry.specs.declared.kinds.Said.TheVariants.{Planned, Drum, Reading, Pair, Mark}
use Rattle.sheet.specs.First.{plan_in, plan_of}
use Rattle.sheet.specs.Reading.{Item, Progress, moved, step_at}
use Rattle.sheet.specs.Sheets.{items_from, sheet_of}
use Rattle.sheet.specs.Table.{table_of}
use Rattle.sheet.specs.declared.order.Stage.{Stage}
use Rattle.sheet.specs.declared.order.Stage.TheVariants.{BeforePlan}

-- the reader behind the first entry
abbrev pub behind_plan : List ℕ → ℕ → Stage → Progress
behind_plan s m u = record { sheet = s; count = m; next = 1; stage = u }

plan_said : (x : Said) (p : Plan) → plan_in x ≡ Ok p → x ≡ Planned p
plan_said (Planned q) p h = cc
plan_said (Drum a) p h = absurd (cc)
plan_said (Reading a) p h = absurd (cc)
plan_said (Pair a b) p h = absurd (cc)
plan_said (Mark b) p h = absurd (cc)

-- the first entry, where it is a plan
pub first_step : (b : Bool) (r : Result (Item × Stage) Fault) (q : Progress) (p : Plan) → plan_of (cond b (moved q r) (Ok None, q)).0 ≡ Ok p → (b ≡ true) × (x : Item) × (u : Stage) × (r ≡ Ok (x, u)) × (x.says ≡ Planned p) × ((cond b (moved q r) (Ok None, q)).1 ≡ record { sheet = q.sheet; count = q.count; next = q.next + 1; stage = u })
first_step true (Ok y) q p h = (refl, y.0, y.1, refl, plan_said y.0.says p h, refl)
first_step true (Err f) q p h = absurd (cc)
first_step false r q p h = absurd (cc)

first_and_rest : (s : List ℕ) (j : ℕ) (x : Item) (u : Stage) (xs : List Item) → step_at s 0 BeforePlan ≡ Ok (x, u) → items_from s j 1 u ≡ Ok xs → items_from s (suc j) 0 BeforePlan ≡ Ok (x ∷ xs)
unfolding items_from
first_and_rest s j x u xs step read = rw (step, read)

-- the whole sheet: its first entry and the others
pub whole_sheet : (s : List ℕ) (m : ℕ) (x : Item) (u : Stage) (xs : List Item) → table_of s ≡ Ok m → 0 < m → step_at s 0 BeforePlan ≡ Ok (x, u) → items_from s (m - 1) 1 u ≡ Ok xs → sheet_of s ≡ Ok (x ∷ xs)
whole_sheet s m x u xs table some step read =
    let e : m ≡ suc (m - 1) = omega arith in
    ap (then (λ j. items_from s j 0 BeforePlan)) table ∙ ap (λ j. items_from s j 0 BeforePlan) e ∙ first_and_rest s (m - 1) x u xs step read
