-- Pages that show a ledger's lines: what the check finds on them, and where a name stands.
use Rattle.std.proofs.Common.{◌≡◌, ℕ, zero, suc, ◌+◌, ◌-◌, ◌<◌, ◌≤◌, Bool, true, false, ltb, List, [], ◌∷◌, length, replicate, Some, Ok, sym, refl, ap, ◌∙◌, subst, arith}
use Rattle.std.specs.List.{AllByRecursion}
use Rattle.std.proofs.lemmas.List.{length-replicate}
use Rattle.std.proofs.lemmas.Grind.{common_steps}
use Rattle.std.proofs.lemmas.Bool.Decides.{nat_tests}
use Rattle.std.proofs.lemmas.Bool.{both_ways}
use Rattle.method.specs.Meaning.{Meaning, Laws, Taken}
use Rattle.rows.specs.declared.page.Page.{Page}
use Rattle.rows.specs.Pages as rows
use Rattle.rows.specs.Checks.{checked, in_order, once, room}
use Rattle.rows.specs.Pages.{page}
use Rattle.bench.specs.Calls.{blank_page, named}
use Rattle.bench.specs.Ledger.{Line, is_open, standing, Apart, row, Shows, Sound}

pub named_not_0 : (x : ℕ) → named x ≡ true → x ≡ 0 → ⊥
named_not_0 x h z = grind (arith, nat_tests)

module _ {R X : Type 0} (m : Meaning R X) where
  pub length_row : (ls : List (Line R)) (k : ℕ) → length (row m ls k) ≡ length ls + k
  length_row ls k = grind (arith, common_steps)

  order_blanks : (b : Bool) (k : ℕ) → in_order b (replicate k (blank_page m)) ≡ true
  order_blanks b zero = refl
  order_blanks b (suc k) = order_blanks true k

  pub order_row : (ls : List (Line R)) (k : ℕ) → AllByRecursion (λ l. named l.name ≡ true) ls → in_order false (row m ls k) ≡ true
  order_row [] k h = order_blanks false k
  order_row (l ∷ ls) k h = grind (arith, nat_tests, order_row ls k h.1, named_not_0 l.name h.0)

  place_blanks : (x k : ℕ) → (x ≡ 0 → ⊥) → rows.place x (replicate k (blank_page m)) ≡ k
  place_blanks x zero ne = refl
  place_blanks x (suc k) ne = grind (arith, nat_tests, place_blanks x k ne)

  -- a name that is not open stands nowhere
  pub place_closed : (x : ℕ) (ls : List (Line R)) (k : ℕ) → (x ≡ 0 → ⊥) → is_open x ls ≡ false → rows.place x (row m ls k) ≡ length (row m ls k)
  place_closed x [] k ne h = place_blanks x k ne ∙ sym (length-replicate k (blank_page m))
  place_closed x (l ∷ ls) k ne h = let ih = place_closed x ls k ne in grind (arith, nat_tests, ih)

  once_blanks : (k : ℕ) → once (replicate k (blank_page m)) ≡ true
  once_blanks zero = refl
  once_blanks (suc k) = once_blanks k

  pub once_row : (ls : List (Line R)) (k : ℕ) → AllByRecursion (λ l. named l.name ≡ true) ls → Apart ls → once (row m ls k) ≡ true
  once_row [] k h a = once_blanks k
  once_row (l ∷ ls) k h a = grind (arith, nat_tests, place_closed l.name ls k (named_not_0 l.name h.0) a.0, once_row ls k h.1 a.1)

  -- a name that is open stands within the row
  pub place_open : (x : ℕ) (ls : List (Line R)) (k : ℕ) → is_open x ls ≡ true → rows.place x (row m ls k) < length ls
  place_open x [] k h = absurd (both_ways false refl h)
  place_open x (l ∷ ls) k h = let ih = place_open x ls k in grind (arith, nat_tests, ih)

  pub found : (x : ℕ) (ls : List (Line R)) (k : ℕ) → (x ≡ 0 → ⊥) → ltb (rows.place x (row m ls k)) (length (row m ls k)) ≡ is_open x ls
  found x ls k ne = grind (arith, nat_tests, place_open x ls k, place_closed x ls k ne, length_row ls k)

  -- the first blank page stands behind the lines
  pub place_blank : (ls : List (Line R)) (k : ℕ) → AllByRecursion (λ l. named l.name ≡ true) ls → rows.place 0 (row m ls k) ≡ length ls
  place_blank [] zero h = refl
  place_blank [] (suc k) h = refl
  place_blank (l ∷ ls) k h = grind (arith, nat_tests, place_blank ls k h.1, named_not_0 l.name h.0)

  module _ (st : X → Bool) (laws : Laws m) where
    room_blanks : (j k : ℕ) → Sound st (replicate k (blank_page m)) → room m st j (replicate k (blank_page m)) ≡ Some j
    room_blanks j zero o = refl
    room_blanks j (suc k) o = grind (arith, nat_tests, laws.counted [] tt, o.0, room_blanks j k o.1)

    pub room_row : (ls : List (Line R)) (k n : ℕ) → AllByRecursion (λ l. named l.name ≡ true) ls → AllByRecursion (λ l. Taken m l.readings) ls → length (standing ls) ≤ n → n ≤ 50 → Sound st (row m ls k) → room m st n (row m ls k) ≡ Some (n - length (standing ls))
    room_row [] k n h t few top o = room_blanks n k o ∙ ap Some (omega arith)
    room_row (l ∷ ls) k n h t few top o =
        let c = laws.counted l.readings t.0 in
        let ih = room_row ls k (n - m.count (m.total l.readings)) h.1 t.1 in
        grind (arith, nat_tests, common_steps, named_not_0 l.name h.0, c, o.0, o.1, ih)

    pub checked_row : (n : ℕ) (ls : List (Line R)) (ps : List (Page X)) → n ≤ 50 → Shows m n ls ps → Sound st ps → checked m st n ps ≡ Ok (n - length (standing ls))
    checked_row n ls ps top h o =
        let k = h.blanks in
        let order = ap (in_order false) h.shown ∙ order_row ls k h.names in
        let apart = ap once h.shown ∙ once_row ls k h.names h.apart in
        let left = ap (room m st n) h.shown ∙ room_row ls k n h.names h.taken h.few top (subst (Sound st) h.shown o) in
        grind (arith, nat_tests, h.some, h.most, order, apart, left)
