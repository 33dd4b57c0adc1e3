-- The verdict of a judged sheet is the plan's, of the sheet's readings, which stand.
use Rattle.std.proofs.Common.{◌≡◌, ℕ, ◌-◌, Bool, true, false, ltb, List, ◌∷◌, map, length, ℤ, pos, nat_abs, Ok, Err, Option, Result, sym, refl, ap, ◌∙◌, subst}
use Rattle.std.proofs.lemmas.Bool.{ltb-true}
use Rattle.fault.proofs.Passed.{then_ok}
use Rattle.fault.specs.Located.{then}
use Rattle.fault.specs.declared.Fault.{Fault}
use Rattle.method.specs.Meaning.{Meaning}
use Rattle.method.specs.Verdicts.{Exactly}
use Rattle.method.specs.declared.verdict.Verdict.{Verdict}
use Rattle.variables.specs.Sums.{sound, summed}
use Rattle.criteria.proofs.Judged.{known_tells, mean_tells, unknown_tells}
use Rattle.criteria.specs.Known.{known, constants as known_constants}
use Rattle.criteria.specs.Unknown.{unknown, constants as unknown_constants}
use Rattle.criteria.specs.Mean.{mean, constants as mean_constants}
use Rattle.attributes.proofs.Judged.{marks_tells}
use Rattle.attributes.specs.Counts.{marked, sound as marks_sound}
use Rattle.attributes.specs.Marks.{marks, constants as marks_constant}
use Rattle.through.specs.Passings.{conforms, difference, gauged, paired}
use Rattle.plans.proofs.Exact.{window_tells}
use Rattle.plans.specs.Meets.{GaugedMeets, KnownMeets, MarksMeet, MeanMeets, PairedMeets, UnknownMeets, WindowMeets}
use Rattle.plans.specs.Piles.{gauged_constants, piled, window, window_constants}
use Rattle.rows.specs.declared.page.Page.{Page}
use Rattle.entry.specs.declared.kinds.Plan.{Plan}
use Rattle.entry.specs.declared.kinds.Plan.TheVariants.{Known, Unknown, Window, Marks, Gauged, Mean, Paired}
use Rattle.entry.specs.declared.kinds.Said.{Said}
use Rattle.entry.specs.declared.kinds.Said.TheVariants.{Planned}
use Rattle.sheet.proofs.Firsts.{behind_plan, first_step, whole_sheet}
use Rattle.sheet.proofs.Wholes.{read_alone}
use Rattle.sheet.specs.First.{first_of, plan_of}
use Rattle.sheet.specs.Reading.{Item, Progress, advanced, opened, step_at}
use Rattle.sheet.specs.Rules.{Read, says}
use Rattle.sheet.specs.Sheets.{items_from}
use Rattle.sheet.specs.Table.{table_of}
use Rattle.sheet.specs.declared.order.Stage.{Stage}
use Rattle.sheet.specs.declared.order.Stage.TheVariants.{BeforePlan}
use Rattle.course.proofs.Samples.{judged_of}
use Rattle.course.specs.Booked.{mark_in, number_in, pair_in}
use Rattle.course.specs.Lots.{LeftOf, lot_of}
use Rattle.acceptance.specs.Carrying.{Left, LeftBehind, LeftFrom, Rows, begun, both_sound, lot, outcome_of, under_plan}
use Rattle.acceptance.specs.Right.{JudgedBySheet, Right, RightUnder, Under}
use Rattle.acceptance.specs.declared.judged.Judged.{Judged}

-- a lot that was judged has a method whose constants are in range
module _ {R X : Type 0} (f : Said → Option R) (size : ℕ) (n : ℤ) (q : Progress) (m : Meaning R X) (v : Verdict) where
  in_range : (ok : Bool) → lot_of (piled ok m) f size n q ≡ Ok v → ok ≡ true
  in_range true h = refl
  in_range false h = absurd (cc)

made : {R X : Type 0} (ok : Bool) (m : Meaning R X) → ok ≡ true → piled ok m ≡ Ok m
made true m e = refl
made false m e = absurd (cc)

-- the entries behind the plan of a sheet, and what the verdict tells of them
record Told {R X : Type 0} (s : List ℕ) (j : ℕ) (u : Stage) (ok : Bool) (m : Meaning R X) (st : X → Bool) (f : Said → Option R) (n : ℤ) (qs : List (Page X)) (v : Verdict) (Meets : List R → Type 0) : Type 0 where
  xs : List Item
  read : items_from s (j - 1) 1 u ≡ Ok xs
  under : Under ok m st f n (says xs) qs v Meets

told_of : {R X : Type 0} (s : List ℕ) (j : ℕ) (u : Stage) (ok : Bool) (m : Meaning R X) (st : X → Bool) (f : Said → Option R) (n : ℤ) (ps qs : List (Page X)) (v : Verdict) (Meets : List R → Type 0) → ((xs : List R) → Exactly (m.verdict (m.total xs)) (Meets xs)) → lot_of (piled ok m) f (length ps) n (behind_plan s j u) ≡ Ok v → LeftOf (piled ok m) f st n (behind_plan s j u) ps qs → Told s j u ok m st f n qs v Meets
told_of s j u ok m st f n ps qs v Meets exact h left =
    let r = in_range f (length ps) n (behind_plan s j u) m v ok h in
    let b = judged_of m st f s j u n v Meets (piled ok m) ps qs (made ok m r) exact h left in
    record { xs = b.xs; read = b.read; under = record { in_range = r; number = b.number; sampled = b.sampled } }

-- the same for each plan
record Behind (s : List ℕ) (j : ℕ) (u : Stage) (p : Plan) (e : Rows) (v : Verdict) : Type 0 where
  xs : List Item
  read : items_from s (j - 1) 1 u ≡ Ok xs
  right : RightUnder p (says xs) e v

behind : (s : List ℕ) (j : ℕ) (u : Stage) (p : Plan) (d e : Rows) (v : Verdict) → under_plan d p (behind_plan s j u) ≡ Ok v → LeftBehind p (behind_plan s j u) d e → Behind s j u p e v
behind s j u (Known n l g k) d e v h left =
    let t = told_of s j u (known_constants l g k) (known l g k) sound number_in n d.singles e.singles v (KnownMeets l g k) (λ xs. known_tells l g k (summed xs)) h left.0 in
    record { xs = t.xs; read = t.read; right = t.under }
behind s j u (Unknown n l k) d e v h left =
    let t = told_of s j u (unknown_constants l k) (unknown l k) sound number_in n d.singles e.singles v (UnknownMeets l k) (λ xs. unknown_tells l k (summed xs)) h left.0 in
    record { xs = t.xs; read = t.read; right = t.under }
behind s j u (Window n l a k) d e v h left =
    let t = told_of s j u (window_constants l a k) (window l a k) both_sound number_in n d.doubles e.doubles v (WindowMeets l a k) (window_tells l a k) h left.0 in
    record { xs = t.xs; read = t.read; right = t.under }
behind s j u (Marks n a) d e v h left =
    let t = told_of s j u (marks_constant a) (marks (nat_abs a)) marks_sound mark_in n d.counts e.counts v (MarksMeet a) (λ xs. marks_tells (nat_abs a) (marked xs)) h left.0 in
    record { xs = t.xs; read = t.read; right = t.under }
behind s j u (Gauged n l g a) d e v h left =
    let t = told_of s j u (gauged_constants l g a) (gauged l g (marks (nat_abs a))) marks_sound number_in n d.counts e.counts v (GaugedMeets l g a) (λ xs. marks_tells (nat_abs a) (marked (map (conforms l g) xs))) h left.0 in
    record { xs = t.xs; read = t.read; right = t.under }
behind s j u (Mean n c) d e v h left =
    let t = told_of s j u (mean_constants n c) (mean (nat_abs n) c) sound number_in n d.singles e.singles v (MeanMeets n c) (λ xs. mean_tells (nat_abs n) c (summed xs)) h left.0 in
    record { xs = t.xs; read = t.read; right = t.under }
behind s j u (Paired n) d e v h left =
    let t = told_of s j u (mean_constants n (pos 0)) (paired (mean (nat_abs n) (pos 0))) sound pair_in n d.singles e.singles v (PairedMeets n) (λ xs. mean_tells (nat_abs n) (pos 0) (summed (map difference xs))) h left.0 in
    record { xs = t.xs; read = t.read; right = t.under }

module _ (s : List ℕ) (d e : Rows) where
  from_start : (m : ℕ) (v : Verdict) → table_of s ≡ Ok m → (p : Plan) (r : Progress) → first_of (record { sheet = s; count = m; next = 0; stage = BeforePlan }) ≡ Ok (p, r) → under_plan d p r ≡ Ok v → LeftBehind p r d e → Right s e (lot p v)
  from_start m v table p r f h left =
      let q : Progress = record { sheet = s; count = m; next = 0; stage = BeforePlan } in
      let g = then_ok (λ p. Ok (p, (advanced q).1)) (plan_of (advanced q).0) (p, r) f in
      let w = first_step (ltb 0 m) (step_at s 0 BeforePlan) q g.0 g.1 in
      let same = same_found (g.0, (advanced q).1) (p, r) g.2 in
      let plan : p ≡ g.0 = ap (λ (z : Plan × Progress). z.0) same in
      let place : r ≡ behind_plan s m w.2 = ap (λ (z : Plan × Progress). z.1) same ∙ w.5 in
      let b = behind s m w.2 p d e v (subst (λ z. under_plan d p z ≡ Ok v) place h) (subst (λ z. LeftBehind p z d e) place left) in
      let whole = whole_sheet s m w.1 w.2 b.xs table (ltb-true 0 m w.0) w.3 b.read in
      record {
        entries = w.1 ∷ b.xs;
        taken = subst (Read s) whole (read_alone s);
        rest = says b.xs;
        plan = ap (λ (y : Said). y ∷ says b.xs) (w.4 ∙ ap Planned (sym plan));
        judged = b.right;
      }
    where
      same_found : (x y : Plan × Progress) → ◌≡◌ {A = Result (Plan × Progress) Fault} (Ok x) (Ok y) → y ≡ x
      same_found x y e = cc

  judged_right : (t : Judged) → outcome_of s d ≡ Ok t → Left s d e → Right s e t
  judged_right t h left =
      let o = then_ok (λ p. then (λ v. Ok (lot p.0 v)) (under_plan d p.0 p.1)) (begun s) t h in
      let v = then_ok (λ v. Ok (lot o.0.0 v)) (under_plan d o.0.0 o.0.1) t o.2 in
      let z = then_ok first_of (opened s) o.0 o.1 in
      let m = then_ok _ (table_of s) z.0 z.1 in
      let q = subst (λ y. first_of y ≡ Ok o.0) (same z.0 _ m.2) z.2 in
      subst (Right s e) (same_lot (lot o.0.0 v.0) t v.2) (from_start m.0 v.0 m.1 o.0.0 o.0.1 q v.1 (subst (λ y. LeftFrom y d e) o.1 left))
    where
      same : (p q : Progress) → ◌≡◌ {A = Result Progress Fault} (Ok q) (Ok p) → p ≡ q
      same p q e = cc

      same_lot : (x y : Judged) → ◌≡◌ {A = Result Judged Fault} (Ok x) (Ok y) → x ≡ y
      same_lot x y h = cc

  -- what a sheet comes to tells of the readings that stand what it should
  pub judged_by_sheet : (r : Result Judged Fault) → r ≡ outcome_of s d → Left s d e → JudgedBySheet s e r
  judged_by_sheet (Ok t) h left = judged_right t (sym h) left
  judged_by_sheet (Err f) h left = tt
