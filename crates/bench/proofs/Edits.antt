-- What adding to a line, removing a line and a new line do to the lines and to the row that shows them.
use Rattle.std.proofs.Common.{◌≡◌, ℕ, suc, ◌+◌, true, false, eqb, List, [], ◌∷◌, ◌++◌, map, length, get_or, set, replicate, refl, ap, arith}
use Rattle.std.specs.List.{AllByRecursion}
use Rattle.std.proofs.lemmas.List.{length-map, append_assoc, set_at, map_push}
use Rattle.std.proofs.ByRecursion.{All-append}
use Rattle.std.proofs.lemmas.Grind.{common_steps}
use Rattle.std.proofs.lemmas.Bool.Decides.{nat_tests}
use Rattle.std.proofs.lemmas.Bool.{ne_eqb, or_from, both_ways}
use Rattle.method.specs.Meaning.{Meaning, Laws, Taken}
use Rattle.rows.specs.declared.page.Page.{Page}
use Rattle.rows.specs.Pages as rows
use Rattle.rows.specs.Pages.{page}
use Rattle.bench.specs.Calls.{blank_page, struck_at}
use Rattle.bench.specs.Ledger.{Line, line, is_open, standing, readings_of, add, remove, Apart, page_of, row}

module _ {R : Type 0} where
  -- a line more
  pub open_push : (y x : ℕ) (ls : List (Line R)) → is_open y ls ≡ false → (x ≡ y → ⊥) → is_open y (ls ++ line x [] ∷ []) ≡ false
  open_push y x [] h ne = or_from (eqb x y) false (ne_eqb x y ne) refl
  open_push y x (l ∷ ls) h ne = grind (arith, nat_tests, open_push y x ls)

  pub apart_push : (x : ℕ) (ls : List (Line R)) → is_open x ls ≡ false → Apart ls → Apart (ls ++ line x [] ∷ [])
  apart_push x [] h a = (refl, tt)
  apart_push x (l ∷ ls) h a = let ih = apart_push x ls in grind (arith, nat_tests, open_push l.name x ls a.0, a.1, ih)

  pub standing_push : (x : ℕ) (ls : List (Line R)) → standing (ls ++ line x [] ∷ []) ≡ standing ls
  standing_push x [] = refl
  standing_push x (l ∷ ls) = ap (λ t. l.readings ++ t) (standing_push x ls)

  -- readings added to a line
  pub open_add : (y x : ℕ) (rs : List R) (ls : List (Line R)) → is_open y (add x rs ls) ≡ is_open y ls
  open_add y x rs [] = refl
  open_add y x rs (l ∷ ls) = grind (arith, nat_tests, open_add y x rs ls)

  pub apart_add : (x : ℕ) (rs : List R) (ls : List (Line R)) → Apart ls → Apart (add x rs ls)
  apart_add x rs [] a = tt
  apart_add x rs (l ∷ ls) a = grind (arith, nat_tests, a.0, a.1, open_add l.name x rs ls, apart_add x rs ls a.1)

  pub names_add : (P : ℕ → Type 0) (x : ℕ) (rs : List R) (ls : List (Line R)) → AllByRecursion (λ l. P l.name) ls → AllByRecursion (λ l. P l.name) (add x rs ls)
  names_add P x rs [] h = tt
  names_add P x rs (l ∷ ls) h = grind (arith, h.0, h.1, names_add P x rs ls h.1)

  pub standing_add : (x : ℕ) (rs : List R) (ls : List (Line R)) → is_open x ls ≡ true → length (standing (add x rs ls)) ≡ length (standing ls) + length rs
  standing_add x rs [] h = absurd (both_ways false refl h)
  standing_add x rs (l ∷ ls) h = let ih = standing_add x rs ls in grind (arith, nat_tests, common_steps, ih)

  pub readings_add : (y x : ℕ) (rs : List R) (ls : List (Line R)) → (y ≡ x → ⊥) → readings_of y (add x rs ls) ≡ readings_of y ls
  readings_add y x rs [] ne = refl
  readings_add y x rs (l ∷ ls) ne = grind (arith, nat_tests, readings_add y x rs ls ne)

  -- a line removed
  pub open_remove : (y x : ℕ) (ls : List (Line R)) → is_open y ls ≡ false → is_open y (remove x ls) ≡ false
  open_remove y x [] h = refl
  open_remove y x (l ∷ ls) h = let ih = open_remove y x ls in grind (arith, nat_tests, ih)

  pub apart_remove : (x : ℕ) (ls : List (Line R)) → Apart ls → Apart (remove x ls)
  apart_remove x [] a = tt
  apart_remove x (l ∷ ls) a = grind (arith, nat_tests, a.0, a.1, open_remove l.name x ls a.0, apart_remove x ls a.1)

  pub all_remove : (P : Line R → Type 0) (x : ℕ) (ls : List (Line R)) → AllByRecursion P ls → AllByRecursion P (remove x ls)
  all_remove P x [] h = tt
  all_remove P x (l ∷ ls) h = grind (arith, h.0, h.1, all_remove P x ls h.1)

  pub standing_remove : (x : ℕ) (ls : List (Line R)) → length (standing (remove x ls)) + length (readings_of x ls) ≡ length (standing ls)
  standing_remove x [] = refl
  standing_remove x (l ∷ ls) = grind (arith, nat_tests, common_steps, standing_remove x ls)

  pub length_remove : (x : ℕ) (ls : List (Line R)) → is_open x ls ≡ true → length (remove x ls) + 1 ≡ length ls
  length_remove x [] h = absurd (both_ways false refl h)
  length_remove x (l ∷ ls) h = let ih = length_remove x ls in grind (arith, nat_tests, ih)

  pub length_add : (x : ℕ) (rs : List R) (ls : List (Line R)) → length (add x rs ls) ≡ length ls
  length_add x rs [] = refl
  length_add x rs (l ∷ ls) = grind (arith, nat_tests, length_add x rs ls)

  module _ {X : Type 0} (m : Meaning R X) where
    pub taken_add : (x : ℕ) (rs : List R) (ls : List (Line R)) → Taken m rs → AllByRecursion (λ l. Taken m l.readings) ls → AllByRecursion (λ l. Taken m l.readings) (add x rs ls)
    taken_add x rs [] t h = tt
    taken_add x rs (l ∷ ls) t h = grind (arith, h.0, h.1, All-append (λ r. m.takes r ≡ true) l.readings rs h.0 t, taken_add x rs ls t h.1)

    pub taken_of : (x : ℕ) (ls : List (Line R)) → AllByRecursion (λ l. Taken m l.readings) ls → Taken m (readings_of x ls)
    taken_of x [] h = tt
    taken_of x (l ∷ ls) h = grind (arith, h.0, taken_of x ls h.1)

    pub taken_standing : (ls : List (Line R)) → AllByRecursion (λ l. Taken m l.readings) ls → Taken m (standing ls)
    taken_standing [] h = tt
    taken_standing (l ∷ ls) h = All-append (λ r. m.takes r ≡ true) l.readings (standing ls) h.0 (taken_standing ls h.1)

    -- the numbers on the page of an open name
    pub numbers_of : (x : ℕ) (ls : List (Line R)) (k : ℕ) (d : Page X) → is_open x ls ≡ true → (get_or (row m ls k) (rows.place x (row m ls k)) d).numbers ≡ m.total (readings_of x ls)
    numbers_of x [] k d h = absurd (both_ways false refl h)
    numbers_of x (l ∷ ls) k d h = let ih = numbers_of x ls k d in grind (arith, nat_tests, common_steps, ih)

    pub place_add : (y x : ℕ) (rs : List R) (ls : List (Line R)) (k : ℕ) → rows.place y (row m (add x rs ls) k) ≡ rows.place y (row m ls k)
    place_add y x rs [] k = refl
    place_add y x rs (l ∷ ls) k = grind (arith, nat_tests, place_add y x rs ls k)

    -- the page of an open name with more readings
    pub shown_add : (laws : Laws m) (x : ℕ) (rs : List R) (ls : List (Line R)) (k : ℕ) → is_open x ls ≡ true → Taken m rs → AllByRecursion (λ l. Taken m l.readings) ls → set (row m ls k) (rows.place x (row m ls k)) (page x (m.join (m.total (readings_of x ls)) (m.total rs))) ≡ row m (add x rs ls) k
    shown_add laws x rs [] k h t ts = absurd (both_ways false refl h)
    shown_add laws x rs (l ∷ ls) k h t ts = let ih = λ (o : is_open x ls ≡ true). shown_add laws x rs ls k o t ts.1 in grind (arith, nat_tests, common_steps, laws.appended l.readings rs ts.0 t, ih)

    pub shown_remove : (x : ℕ) (ls : List (Line R)) (k : ℕ) → is_open x ls ≡ true → struck_at m (rows.place x (row m ls k)) (row m ls k) ≡ row m (remove x ls) (k + 1)
    shown_remove x [] k h = absurd (both_ways false refl h)
    shown_remove x (l ∷ ls) k h = let ih = shown_remove x ls k in grind (arith, nat_tests, common_steps, ih)

    pub shown_push : (x : ℕ) (ls : List (Line R)) (k : ℕ) → set (row m ls (suc k)) (length ls) (page x (m.total [])) ≡ row m (ls ++ line x [] ∷ []) k
    shown_push x ls k = grind (arith, common_steps, set_at (map (page_of m) ls) (blank_page m) (replicate k (blank_page m)) (page x (m.total [])) (length ls) (length-map ls (page_of m)), append_assoc (map (page_of m) ls) (page x (m.total []) ∷ []) (replicate k (blank_page m)), map_push (page_of m) ls (line x []))
