-- The readings of a sheet whose lot was judged stand, and the verdict is theirs.
use Rattle.std.proofs.Common.{◌≡◌, ℕ, ◌-◌, Bool, true, cond, ◌&&◌, ltb, leb, List, [], length, ℤ, pos, negsuc, Ok, Err, Option, Result, sym, refl, ap, ◌∙◌, subst, arith}
use Rattle.std.proofs.lemmas.List.{append-nil}
use Rattle.std.proofs.lemmas.Bool.{ltb-false}
use Rattle.std.specs.List.Sorted.{IsPermutation}
use Rattle.fault.proofs.Passed.{located_ok, then_ok, not_refused}
use Rattle.fault.specs.declared.Fault.{Fault}
use Rattle.fault.specs.declared.Fault.TheVariants.{PlannedNumber, ReadingsMissing, RowSize}
use Rattle.method.specs.Meaning.{Meaning}
use Rattle.method.specs.Verdicts.{yes}
use Rattle.method.specs.declared.verdict.Verdict.{Verdict}
use Rattle.rows.specs.declared.page.Page.{Page}
use Rattle.bench.specs.Calls.{admitted}
use Rattle.bench.specs.Ledger.{standing, judging}
use Rattle.entry.specs.declared.kinds.Said.{Said}
use Rattle.sheet.proofs.Firsts.{behind_plan}
use Rattle.sheet.specs.Reading.{Item}
use Rattle.sheet.specs.Rules.{says}
use Rattle.sheet.specs.Sheets.{items_from}
use Rattle.sheet.specs.declared.order.Stage.{Stage}
use Rattle.course.proofs.Readings.{made}
use Rattle.course.specs.Booked.{readings_in}
use Rattle.course.specs.Course.{natural}
use Rattle.course.specs.Lots.{LeftOf, LeftUnder, Shown, lot_of, lot_under, ready, under, verdict_after}
use Rattle.course.specs.Sampled.{Sampled}

-- a bench that was set up has a planned number of at least 1
number_is : (n : ℤ) (a b : Bool) → ◌≡◌ {A = Result (Unit {0}) Fault} (cond (leb 1 (natural n) && a) (cond b (Ok tt) (Err (RowSize 0))) (Err (PlannedNumber 0))) (Ok tt) → n ≡ pos (natural n)
number_is (pos n) a b h = refl
number_is (negsuc n) a b h = absurd (cc)

-- the entries behind the plan, and what the lot tells of them
pub record Behind {R X : Type 0} (m : Meaning R X) (st : X → Bool) (f : Said → Option R) (s : List ℕ) (j : ℕ) (u : Stage) (n : ℤ) (qs : List (Page X)) (v : Verdict) (Meets : List R → Type 0) : Type 0 where
  pub number : n ≡ pos (natural n)
  pub xs : List Item
  pub read : items_from s (j - 1) 1 u ≡ Ok xs
  pub sampled : Sampled m st f (natural n) (says xs) qs v Meets

module _ {R X : Type 0} (m : Meaning R X) (st : X → Bool) (f : Said → Option R) (s : List ℕ) (j : ℕ) (u : Stage) (n : ℤ) (v : Verdict) (Meets : List R → Type 0) where
  pub judged_under : (ps qs : List (Page X)) → ((xs : List R) → (yes (m.verdict (m.total xs)) ≡ true → Meets xs) × (Meets xs → yes (m.verdict (m.total xs)) ≡ true)) → lot_under m f (length ps) n (behind_plan s j u) ≡ Ok v → LeftUnder m f st n (behind_plan s j u) ps qs → Behind m st f s j u n qs v Meets
  judged_under ps qs exact h left =
      let q = behind_plan s j u in
      let size = length ps in
      let k = natural n in
      let ls = (under m f size k q).0 in
      let a = then_ok (λ _. verdict_after m f size k q) (ready m size n) v h in
      let c = then_ok (λ _. judging m k ls) (under m f size k q).1 v a.2 in
      let d = not_refused (ltb (length (standing ls)) k) ReadingsMissing (m.verdict (m.total (standing ls))) v c.2 in
      let held = subst (λ z. Shown m f st size n q z ps qs) a.1 left in
      let b = made m f k size s (j - 1) 1 u 0 [] ls (ap (λ (z : Result (Unit {0}) Fault). (ls, z)) c.1) in
      let e = d.1 in
      record {
        number = number_is n _ _ (located_ok 1 (admitted m k size) tt a.1);
        xs = b.xs;
        read = b.read;
        sampled = record {
          lines = ls;
          shown = held;
          stand = subst (λ z. IsPermutation z (standing ls)) (append-nil (readings_in f (says b.xs))) b.stand;
          planned = omega (arith, ltb-false (length (standing ls)) k d.0, held.shows.few);
          verdict = e;
          met = λ y. (exact (standing ls)).0 (ap yes (sym e) ∙ y);
          unmet = λ y. ap yes e ∙ (exact (standing ls)).1 y;
        };
      }

  -- the same of a method that was made from constants
  pub judged_of : (p : Result (Meaning R X) Fault) (ps qs : List (Page X)) → p ≡ Ok m → ((xs : List R) → (yes (m.verdict (m.total xs)) ≡ true → Meets xs) × (Meets xs → yes (m.verdict (m.total xs)) ≡ true)) → lot_of p f (length ps) n (behind_plan s j u) ≡ Ok v → LeftOf p f st n (behind_plan s j u) ps qs → Behind m st f s j u n qs v Meets
  judged_of p ps qs e exact h left =
      judged_under ps qs exact (subst (λ z. lot_of z f (length ps) n (behind_plan s j u) ≡ Ok v) e h) (subst (λ z. LeftOf z f st n (behind_plan s j u) ps qs) e left)
