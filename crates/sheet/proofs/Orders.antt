-- The stages of a sheet keep the order of its entries.
use Rattle.std.proofs.Common.{◌≡◌, ℕ, zero, suc, ◌<◌, List, [], ◌∷◌, ◌++◌, length, pos, Some, None, Option, sym, refl, ap, subst, arith}
use Rattle.std.proofs.ByRecursion.{All-get_or, All-push}
use Rattle.std.proofs.lemmas.List.{length_push, get_or_push}
use Rattle.std.specs.List.{AllByRecursion}
use Rattle.entry.specs.declared.kinds.Plan.{Plan}
use Rattle.entry.specs.declared.kinds.Said.{Said}
use Rattle.entry.specs.declared.kinds.Said.TheVariants.{Planned, Drum, Reading, Pair, Mark}
use Rattle.sheet.specs.Order.{followed, kind_of}
use Rattle.sheet.specs.Rules.{FitsPlan, IsDrum, IsMeasured, IsPlan, Ordered, at}
use Rattle.sheet.specs.declared.order.Kind.{Kind}
use Rattle.sheet.specs.declared.order.Kind.TheVariants.{OfReadings, OfPairs, OfMarks}
use Rattle.sheet.specs.declared.order.Stage.{Stage}
use Rattle.sheet.specs.declared.order.Stage.TheVariants.{BeforePlan, BeforeDrums, AmongDrums}

-- entries that bring a sheet to a stage
abbrev pub Reached : Stage → List Said → Type 0
Reached BeforePlan xs = xs ≡ []
Reached (BeforeDrums k) xs = (p : Plan) × (kind_of p ≡ k) × (xs ≡ Planned p ∷ [])
Reached (AmongDrums k) xs = (p : Plan) × (a : _) × (ys : List Said) × (kind_of p ≡ k) × (xs ≡ Planned p ∷ Drum a ∷ ys) × AllByRecursion (FitsPlan p) ys

unplanned : (p : Plan) (x : Said) → FitsPlan p x → IsPlan x → ⊥
unplanned p (Planned q) f g = f
unplanned p (Drum a) f g = g
unplanned p (Reading a) f g = g
unplanned p (Pair a b) f g = g
unplanned p (Mark b) f g = g

in_order : (p : Plan) (a : _) (ys : List Said) → AllByRecursion (FitsPlan p) ys → Ordered (Planned p ∷ Drum a ∷ ys)
in_order p a ys f =
    record {
      plan_first = tt;
      one_plan = later_unplanned;
      fits = later_fits;
      drum_before = later_named;
    }
  where
    fit : (i : ℕ) → i < length ys → FitsPlan p (at ys i)
    fit i l = All-get_or (FitsPlan p) ys i (Drum (pos 0)) l f

    later_unplanned : (i : ℕ) → 0 < i → i < length (Planned p ∷ Drum a ∷ ys) → IsPlan (at (Planned p ∷ Drum a ∷ ys) i) → ⊥
    later_unplanned zero h l g = absurd (omega arith)
    later_unplanned (suc zero) h l g = g
    later_unplanned (suc (suc i)) h l g = unplanned p (at ys i) (fit i (omega arith)) g

    later_fits : (i : ℕ) → 0 < i → i < length (Planned p ∷ Drum a ∷ ys) → FitsPlan p (at (Planned p ∷ Drum a ∷ ys) i)
    later_fits zero h l = absurd (omega arith)
    later_fits (suc zero) h l = tt
    later_fits (suc (suc i)) h l = fit i (omega arith)

    later_named : (i : ℕ) → i < length (Planned p ∷ Drum a ∷ ys) → IsMeasured (at (Planned p ∷ Drum a ∷ ys) i) → (j : ℕ) × (j < i) × IsDrum (at (Planned p ∷ Drum a ∷ ys) j)
    later_named zero l m = absurd m
    later_named (suc zero) l m = absurd m
    later_named (suc (suc i)) l m = (1, omega arith, tt)

pub reached_order : (t : Stage) (xs : List Said) → Reached t xs → 0 < length xs → Ordered xs
reached_order BeforePlan xs r h = absurd (omega (arith, ap length r))
reached_order (BeforeDrums k) xs r h = subst Ordered (sym r.2) alone
  where
    none_measured : (i : ℕ) → i < length (Planned r.0 ∷ []) → IsMeasured (at (Planned r.0 ∷ []) i) → (j : ℕ) × (j < i) × IsDrum (at (Planned r.0 ∷ []) j)
    none_measured zero l m = absurd m
    none_measured (suc i) l m = absurd (omega arith)

    alone : Ordered (Planned r.0 ∷ [])
    alone = record {
      plan_first = tt;
      one_plan = λ i g l _. omega arith;
      fits = λ i g l. absurd (omega arith);
      drum_before = none_measured;
    }
reached_order (AmongDrums k) xs r h = subst Ordered (sym r.4) (in_order r.0 r.1 r.2 r.5)

same_stage : (t u : Stage) → ◌≡◌ {A = Option Stage} (Some t) (Some u) → t ≡ u
same_stage t u h = cc

-- one entry more that fits, among drums
pushed : (k : Kind) (xs : List Said) (r : Reached (AmongDrums k) xs) (x : Said) → FitsPlan r.0 x → Reached (AmongDrums k) (xs ++ x ∷ [])
pushed k xs r x f = (r.0, r.1, r.2 ++ x ∷ [], r.3, ap (λ ys. ys ++ x ∷ []) r.4, All-push (FitsPlan r.0) r.2 x r.5 f)

-- one entry more that may stand there
pub reached_more : (t u : Stage) (xs : List Said) (x : Said) → Reached t xs → followed t x ≡ Some u → Reached u (xs ++ x ∷ [])
reached_more BeforePlan u xs (Planned p) r h = subst (λ v. Reached v (xs ++ Planned p ∷ [])) (same_stage (BeforeDrums (kind_of p)) u h) (p, refl, ap (λ ys. ys ++ Planned p ∷ []) r)
reached_more BeforePlan u xs (Drum a) r h = cc
reached_more BeforePlan u xs (Reading a) r h = cc
reached_more BeforePlan u xs (Pair a b) r h = cc
reached_more BeforePlan u xs (Mark b) r h = cc
reached_more (BeforeDrums k) u xs (Planned p) r h = cc
reached_more (BeforeDrums k) u xs (Drum a) r h = subst (λ v. Reached v (xs ++ Drum a ∷ [])) (same_stage (AmongDrums k) u h) (r.0, a, [], r.1, ap (λ ys. ys ++ Drum a ∷ []) r.2, tt)
reached_more (BeforeDrums k) u xs (Reading a) r h = cc
reached_more (BeforeDrums k) u xs (Pair a b) r h = cc
reached_more (BeforeDrums k) u xs (Mark b) r h = cc
reached_more (AmongDrums k) u xs (Planned p) r h = cc
reached_more (AmongDrums k) u xs (Drum a) r h = subst (λ v. Reached v (xs ++ Drum a ∷ [])) (same_stage (AmongDrums k) u h) (pushed k xs r (Drum a) tt)
reached_more (AmongDrums OfReadings) u xs (Reading a) r h = subst (λ v. Reached v (xs ++ Reading a ∷ [])) (same_stage (AmongDrums OfReadings) u h) (pushed OfReadings xs r (Reading a) r.3)
reached_more (AmongDrums OfPairs) u xs (Reading a) r h = cc
reached_more (AmongDrums OfMarks) u xs (Reading a) r h = cc
reached_more (AmongDrums OfReadings) u xs (Pair a b) r h = cc
reached_more (AmongDrums OfPairs) u xs (Pair a b) r h = subst (λ v. Reached v (xs ++ Pair a b ∷ [])) (same_stage (AmongDrums OfPairs) u h) (pushed OfPairs xs r (Pair a b) r.3)
reached_more (AmongDrums OfMarks) u xs (Pair a b) r h = cc
reached_more (AmongDrums OfReadings) u xs (Mark b) r h = cc
reached_more (AmongDrums OfPairs) u xs (Mark b) r h = cc
reached_more (AmongDrums OfMarks) u xs (Mark b) r h = subst (λ v. Reached v (xs ++ Mark b ∷ [])) (same_stage (AmongDrums OfMarks) u h) (pushed OfMarks xs r (Mark b) r.3)

-- the last entry behind a plan fits it
last_fits : (p : Plan) (zs : List Said) (x : Said) → Ordered (Planned p ∷ (zs ++ x ∷ [])) → FitsPlan p x
last_fits p zs x o =
    subst (FitsPlan p) (get_or_push zs x (Drum (pos 0)) (length zs) refl) (o.fits (suc (length zs)) (omega arith) (omega (arith, length_push zs x)))

-- what is measured behind the plan alone has no drum before it
undrummed : (p : Plan) (x : Said) → IsMeasured x → Ordered (Planned p ∷ x ∷ []) → ⊥
undrummed p x m o = none_before (o.drum_before 1 (omega arith) m)
  where
    none_before : (j : ℕ) × (j < 1) × IsDrum (at (Planned p ∷ x ∷ []) j) → ⊥
    none_before d = no_drum d.0 d.1 d.2
      where
        no_drum : (j : ℕ) → j < 1 → IsDrum (at (Planned p ∷ x ∷ []) j) → ⊥
        no_drum zero l d = d
        no_drum (suc j) l d = omega arith

-- an entry that may not stand there breaks the order
pub reached_stops : (t : Stage) (xs : List Said) (x : Said) → Reached t xs → followed t x ≡ None → Ordered (xs ++ x ∷ []) → ⊥
reached_stops BeforePlan xs x r h o = first x h (subst (λ ys. Ordered (ys ++ x ∷ [])) r o).plan_first
  where
    first : (x : Said) → followed BeforePlan x ≡ None → IsPlan x → ⊥
    first (Planned p) h g = cc
    first (Drum a) h g = g
    first (Reading a) h g = g
    first (Pair a b) h g = g
    first (Mark b) h g = g
reached_stops (BeforeDrums k) xs x r h o = second x h (subst (λ ys. Ordered (ys ++ x ∷ [])) r.2 o)
  where
    second : (x : Said) → followed (BeforeDrums k) x ≡ None → Ordered (Planned r.0 ∷ x ∷ []) → ⊥
    second (Planned p) h o = last_fits r.0 [] (Planned p) o
    second (Drum a) h o = cc
    second (Reading a) h o = undrummed r.0 (Reading a) tt o
    second (Pair a b) h o = undrummed r.0 (Pair a b) tt o
    second (Mark b) h o = undrummed r.0 (Mark b) tt o
reached_stops (AmongDrums k) xs x r h o =
    later k x h r.3 (last_fits r.0 (Drum r.1 ∷ r.2) x (subst (λ ys. Ordered (ys ++ x ∷ [])) r.4 o))
  where
    later : (k : Kind) (x : Said) → followed (AmongDrums k) x ≡ None → kind_of r.0 ≡ k → FitsPlan r.0 x → ⊥
    later k (Planned p) h e f = f
    later k (Drum a) h e f = cc
    later OfReadings (Reading a) h e f = cc
    later OfPairs (Reading a) h e f = cc
    later OfMarks (Reading a) h e f = cc
    later OfReadings (Pair a b) h e f = cc
    later OfPairs (Pair a b) h e f = cc
    later OfMarks (Pair a b) h e f = cc
    later OfReadings (Mark b) h e f = cc
    later OfPairs (Mark b) h e f = cc
    later OfMarks (Mark b) h e f = cc
