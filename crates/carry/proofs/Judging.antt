-- The verdict of a judged sheet is the plan's, of the sheet's readings.
use Rattle.std.proofs.Common.{◌≡◌, ℕ, zero, suc, ◌+◌, ◌-◌, ◌<◌, ◌≤◌, Bool, true, false, cond, ◌&&◌, ltb, leb, List, [], ◌∷◌, ◌++◌, ℤ, pos, negsuc, Ok, Err, Result, sym, refl, ap, ◌∙◌, subst, ⊎_elim, arith}
use Rattle.std.proofs.ByRecursion.{All-append}
use Rattle.std.proofs.lemmas.Bool.{ltb-false, ltb-true}
use Rattle.std.specs.List.{AllByRecursion}
use Rattle.fault.proofs.Passed.{located_ok, then_ok, not_refused}
use Rattle.fault.specs.Located.{located, then}
use Rattle.fault.specs.declared.Fault.{Fault}
use Rattle.fault.specs.declared.Fault.TheVariants.{PlanConstant, PlannedNumber}
use Rattle.method.specs.Plans.{planned}
use Rattle.variables.specs.Laws.{appended, assoc, comm, counted, neutral}
use Rattle.variables.specs.Sums.{none, reading, summed, together}
use Rattle.criteria.proofs.Judged.{unknown_tells}
use Rattle.criteria.specs.Unknown.{Tells, constants, judged, newly}
use Rattle.variables.specs.declared.sums.Sums.{Sums}
use Rattle.entry.specs.declared.kinds.Plan.{Plan}
use Rattle.entry.specs.declared.kinds.Plan.TheVariants.{Known, Unknown, Window, Marks, Gauged, Mean, Paired}
use Rattle.entry.specs.declared.kinds.Said.{Said}
use Rattle.entry.specs.declared.kinds.Said.TheVariants.{Planned, Drum as Drummed, Reading, Pair, Mark}
use Rattle.sheet.specs.Reading.{Item, Progress, advanced, opened, step_at}
use Rattle.sheet.proofs.Firsts.{behind_plan, first_step, whole_sheet}
use Rattle.sheet.proofs.Wholes.{read_alone}
use Rattle.sheet.specs.Rules.{Read, says}
use Rattle.sheet.specs.Sheets.{Answered, items_from, sheet_of}
use Rattle.sheet.specs.Table.{table_of}
use Rattle.sheet.specs.declared.order.Stage.{Stage}
use Rattle.sheet.specs.declared.order.Stage.TheVariants.{BeforePlan}
use Rattle.carry.specs.Booking.{Books, carried_out}
use Rattle.sheet.specs.First.{first_of, plan_of}
use Rattle.carry.specs.Carrying.{Came, Lot, blank, books_from, books_of, closed, lot_under, other, outcome_of, planned_number, under_plan}
use Rattle.carry.specs.Carrying.Came.{judged_lot, not_yet}
use Rattle.carry.specs.Judged.{JudgedBySheet, Right, readings}
use Rattle.carry.proofs.Bookings.{drum_kept, entered_ok}

-- what one entry books: its reading, if it is one
abbrev of : Said → List ℤ
of x = readings (x ∷ [])

booked : (n : ℕ) (x : Said) (b c : Books) → carried_out n x b ≡ Ok c → (c.total ≡ together b.total (summed (of x))) × AllByRecursion (λ r. reading r ≡ true) (of x) × (b.total.n ≤ n → c.total.n ≤ n)
booked n (Planned p) b c h = absurd (cc)
booked n (Drummed a) b c h =
    let d = drum_kept a b c h in
    (d.0 ∙ sym (comm b.total none ∙ neutral b.total), tt, λ l. omega (arith, ap (λ (x : Sums). x.n) d.0))
booked n (Reading r) b c h =
    let d = entered_ok n r b c h in
    (d.2, (d.0, tt), λ l. omega (arith, ap (λ (x : Sums). x.n) d.2, d.1))
booked n (Pair u v) b c h = absurd (cc)
booked n (Mark u) b c h = absurd (cc)

readings_cons : (x : Said) (xs : List Said) → readings (x ∷ xs) ≡ of x ++ readings xs
readings_cons (Planned p) xs = refl
readings_cons (Drummed a) xs = refl
readings_cons (Reading r) xs = refl
readings_cons (Pair a b) xs = refl
readings_cons (Mark b) xs = refl

-- books that were made have the readings of the entries, and the entries are those of the sheet
pub record Made (n : ℕ) (s : List ℕ) (j i : ℕ) (t : Stage) (b c : Books) : Type 0 where
  pub xs : List Item
  pub read : items_from s j i t ≡ Ok xs
  pub total : c.total ≡ together b.total (summed (readings (says xs)))
  pub each : AllByRecursion (λ r. reading r ≡ true) (readings (says xs))
  pub few : b.total.n ≤ n → c.total.n ≤ n

made_more : (n : ℕ) (s : List ℕ) (j i : ℕ) (t u : Stage) (x : Item) (b c e : Books) → step_at s i t ≡ Ok (x, u) → carried_out n x.says b ≡ Ok c → Made n s j (i + 1) u c e → Made n s (suc j) i t b e
unfolding items_from
made_more n s j i t u x b c e h d m =
    let k = booked n x.says b c d in
    let rs = readings (says m.xs) in
    let cons = readings_cons x.says (says m.xs) in
    record {
      xs = x ∷ m.xs;
      read = rw (h, m.read);
      total = m.total ∙ ap (λ y. together y (summed rs)) k.0 ∙ assoc b.total (summed (of x.says)) (summed rs)
          ∙ ap (together b.total) (sym (appended (of x.says) rs) ∙ ap summed (sym cons));
      each = subst (AllByRecursion (λ r. reading r ≡ true)) (sym cons) (All-append (λ r. reading r ≡ true) (of x.says) rs k.1 m.each);
      few = λ l. m.few (k.2 l);
    }

-- the books behind some entries
pub made : (n : ℕ) (s : List ℕ) (j i : ℕ) (t : Stage) (b e : Books) → books_from n s j i t b ≡ Ok e → Made n s j i t b e
unfolding books_from items_from
made n s zero i t b e h =
    let d : e ≡ b = cc in
    record { xs = []; read = refl; total = ap (λ (x : Books). x.total) d ∙ sym (comm b.total none ∙ neutral b.total); each = tt; few = λ l. omega (arith, ap (λ (x : Books). x.total.n) d) }
made n s (suc j) i t b e h =
    let p = then_ok (λ p. then (λ c. books_from n s j (i + 1) p.1 c) (located (i + 1) (carried_out n p.0.says b))) (step_at s i t) e h in
    let x = p.0 in
    let q = then_ok (λ c. books_from n s j (i + 1) x.1 c) (located (i + 1) (carried_out n x.0.says b)) e p.2 in
    made_more n s j i t x.1 x.0 b q.0 e p.1 (located_ok (i + 1) (carried_out n x.0.says b) q.0 q.1) (made n s j (i + 1) x.1 q.0 e q.2)

number_is : (n : ℤ) (j : ℕ) → planned_number n ≡ Ok j → n ≡ pos j
number_is (pos m) j h = ap pos (inner (planned (pos m)) (leb 2 m && leb m 50) m j h)
  where
    inner : (a b : Bool) (m j : ℕ) → cond a (cond b (Ok m) (Err (PlannedNumber 0))) (Err (PlannedNumber 0)) ≡ Ok j → m ≡ j
    inner true true m j h = cc
    inner true false m j h = absurd (cc)
    inner false b m j h = absurd (cc)
number_is (negsuc m) j h = absurd (cc)

constants_ok : (l k : ℤ) (p : ℤ × ℤ) → newly l k ≡ Ok p → constants l k ≡ true
constants_ok l k p h = test (constants l k) p h
  where
    test : (b : Bool) (p : ℤ × ℤ) → ◌≡◌ {A = Result (ℤ × ℤ) Fault} (cond b (Ok (l, k)) (Err (PlanConstant 0))) (Ok p) → b ≡ true
    test true p h = refl
    test false p h = absurd (cc)

-- only a plan of unknown deviation gives a judged lot
not_other : (s : List ℕ) (p : Plan) (t : Lot) → other s p ≡ Ok (judged_lot t) → ⊥
not_other s p t h =
    let w = then_ok (λ _. Ok (not_yet p)) (sheet_of s) (judged_lot t) h in
    let e = w.2 in
    let z : ◌≡◌ {A = ℕ} 0 1 = cc in
    omega arith

judged_plan : (s : List ℕ) (p : Plan) (q : Progress) (t : Lot) → under_plan s p q ≡ Ok (judged_lot t) → (n : ℤ) × (l : ℤ) × (k : ℤ) × (p ≡ Unknown n l k) × (lot_under n l k q ≡ Ok t)
judged_plan s (Known n l d k) q t h = absurd (not_other s (Known n l d k) t h)
judged_plan s (Unknown n l k) q t h =
    let w = then_ok (λ r. Ok (judged_lot r)) (lot_under n l k q) (judged_lot t) h in
    let e = w.2 in
    let d : w.0 ≡ t = cc in
    (n, l, k, refl, w.1 ∙ ap Ok d)
judged_plan s (Window n l u k) q t h = absurd (not_other s (Window n l u k) t h)
judged_plan s (Marks n a) q t h = absurd (not_other s (Marks n a) t h)
judged_plan s (Gauged n l g a) q t h = absurd (not_other s (Gauged n l g a) t h)
judged_plan s (Mean n c) q t h = absurd (not_other s (Mean n c) t h)
judged_plan s (Paired n) q t h = absurd (not_other s (Paired n) t h)

-- what a judged lot tells of its plan and its books
record Closed (n l k : ℤ) (q : Progress) (t : Lot) : Type 0 where
  in_range : constants l k ≡ true
  number : n ≡ pos t.n
  books : Books
  made_by : books_of t.n q blank ≡ Ok books
  enough : t.n ≤ books.total.n
  says_so : t.verdict ≡ judged l k books.total

closed_lot : (n l k : ℤ) (q : Progress) (t : Lot) → lot_under n l k q ≡ Ok t → Closed n l k q t
closed_lot n l k q t h =
    let a = then_ok _ (located 1 (newly l k)) t h in
    let b = then_ok _ (located 1 (planned_number n)) t a.2 in
    let j = b.0 in
    let c = then_ok (closed j l k) (books_of j q blank) t b.2 in
    let d = not_refused (ltb c.0.total.n j) _ _ t c.2 in
    let e : t.n ≡ j = ap (λ (x : Lot). x.n) d.1 in
    record {
      in_range = constants_ok l k a.0 (located_ok 1 (newly l k) a.0 a.1);
      number = number_is n j (located_ok 1 (planned_number n) j b.1) ∙ ap pos (sym e);
      books = c.0;
      made_by = subst (λ i. books_of i q blank ≡ Ok c.0) (sym e) c.1;
      enough = omega (arith, ltb-false c.0.total.n j d.0, e);
      says_so = ap (λ (x : Lot). x.verdict) d.1;
    }

right : (s : List ℕ) (m : ℕ) (x : Item) (u : Stage) (n l k : ℤ) (t : Lot) → table_of s ≡ Ok m → 0 < m → step_at s 0 BeforePlan ≡ Ok (x, u) → x.says ≡ Planned (Unknown n l k) → Closed n l k (behind_plan s m u) t → Right s t
right s m x u n l k t table some step first c =
    let b = made t.n s (m - 1) 1 u blank c.books c.made_by in
    let rs = readings (says b.xs) in
    let total : c.books.total ≡ summed rs = b.total ∙ neutral (summed rs) in
    let whole = whole_sheet s m x u b.xs table some step b.read in
    record {
      entries = x ∷ b.xs;
      taken = subst (Read s) whole (read_alone s);
      limit = l;
      k = k;
      rest = says b.xs;
      plan = ap (λ (y : Said). y ∷ says b.xs) (first ∙ ap (λ (z : ℤ). Planned (Unknown z l k)) c.number);
      in_range = c.in_range;
      planned = sym (counted rs) ∙ omega (arith, ap (λ (y : Sums). y.n) total, c.enough, b.few (omega arith));
      each = b.each;
      verdict = subst (λ v. Tells v l k (summed rs)) (sym (c.says_so ∙ ap (judged l k) total)) (unknown_tells l k (summed rs));
    }

from_start : (s : List ℕ) (m : ℕ) (t : Lot) → table_of s ≡ Ok m → then (λ p. under_plan s p.0 p.1) (first_of (record { sheet = s; count = m; next = 0; stage = BeforePlan })) ≡ Ok (judged_lot t) → Right s t
from_start s m t table h =
    let q : Progress = record { sheet = s; count = m; next = 0; stage = BeforePlan } in
    let f = then_ok (λ p. under_plan s p.0 p.1) (first_of q) (judged_lot t) h in
    let g = then_ok (λ p. Ok (p, (advanced q).1)) (plan_of (advanced q).0) f.0 f.1 in
    let w = first_step (ltb 0 m) (step_at s 0 BeforePlan) q g.0 g.1 in
    let d = same_found (g.0, (advanced q).1) f.0 g.2 in
    let e = subst (λ r. under_plan s g.0 r ≡ Ok (judged_lot t)) w.5 (subst (λ (z : Plan × Progress). under_plan s z.0 z.1 ≡ Ok (judged_lot t)) d f.2) in
    let j = judged_plan s g.0 (behind_plan s m w.2) t e in
    right s m w.1 w.2 j.0 j.1 j.2 t table (ltb-true 0 m w.0) w.3 (w.4 ∙ ap Planned j.3) (closed_lot j.0 j.1 j.2 (behind_plan s m w.2) t j.4)
  where
    same_found : (x y : Plan × Progress) → ◌≡◌ {A = Result (Plan × Progress) Fault} (Ok x) (Ok y) → y ≡ x
    same_found x y e = cc

judged_right : (s : List ℕ) (t : Lot) → outcome_of s ≡ Ok (judged_lot t) → Right s t
judged_right s t h =
    let o = then_ok (λ q. then (λ p. under_plan s p.0 p.1) (first_of q)) (opened s) (judged_lot t) h in
    let m = then_ok _ (table_of s) o.0 o.1 in
    from_start s m.0 t m.1 (subst (λ q. then (λ p. under_plan s p.0 p.1) (first_of q) ≡ Ok (judged_lot t)) (same o.0 _ m.2) o.2)
  where
    same : (p q : Progress) → ◌≡◌ {A = Result Progress Fault} (Ok q) (Ok p) → p ≡ q
    same p q e = cc

-- what a sheet comes to tells of its readings what it should
judged_by_sheet : (s : List ℕ) (r : Result Came Fault) → outcome_of s ≡ r → JudgedBySheet s r
judged_by_sheet s (Ok (judged_lot t)) h = judged_right s t h
judged_by_sheet s (Ok (not_yet p)) h = tt
judged_by_sheet s (Err f) h = tt

pub answer_judged : (s : List ℕ) (r : Result Came Fault) → Answered r (outcome_of s) → JudgedBySheet s r
answer_judged s r a = ⊎_elim (λ e. subst (JudgedBySheet s) (sym e) tt) (λ e. judged_by_sheet s r (sym e)) a
