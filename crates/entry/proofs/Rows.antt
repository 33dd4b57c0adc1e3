-- Numbers with commas between them are exactly what printing them gives.
use Rattle.std.proofs.Common.{◌≡◌, ℕ, zero, suc, ◌+◌, ◌<◌, List, [], ◌∷◌, ◌++◌, length, ℤ, Ok, sym, refl, ap, ◌∙◌, subst, ⊎_elim, arith}
use Rattle.std.proofs.lemmas.Bool.{cases_lt}
use Rattle.std.proofs.lemmas.Bool.Decides.{Decides-eqb}
use Rattle.std.proofs.lemmas.List.{drop_all, take_at}
use Rattle.std.proofs.lemmas.List.Sums.{passes_at_first, split_at_first}
use Rattle.std.specs.Fmt.{signed_decimal}
use Rattle.std.specs.List.{AllByRecursion, after_first, before_first, position_or_len}
use Rattle.fault.proofs.Passed.{then_ok}
use Rattle.fault.specs.Located.{then}
use Rattle.entry.specs.Numbers.{is_comma, number_of, numbers_of}
use Rattle.entry.specs.Printed.{Short}
use Rattle.entry.specs.Spelled.{commas}
use Rattle.entry.proofs.Commas.{first_printed, no_more, past}
use Rattle.entry.proofs.Spelling.{printed}

-- a text with a comma is what stands before the first, a comma, and what stands behind it
cut : (bs : List ℕ) → position_or_len is_comma bs < length bs → bs ≡ before_first is_comma bs ++ 44 ∷ after_first is_comma bs
cut bs h =
    split_at_first is_comma bs 0 h ∙ ap (λ c. before_first is_comma bs ++ c ∷ after_first is_comma bs) ((Decides-eqb _ 44).0 (passes_at_first is_comma bs 0 h))

module _ (x : ℤ) (t : List ℕ) (s : Short x) where
  before_printed : before_first is_comma (signed_decimal x ++ 44 ∷ t) ≡ signed_decimal x
  before_printed = rw (first_printed x t s) (take_at (signed_decimal x) (44 ∷ t) _ refl)

  after_printed : after_first is_comma (signed_decimal x ++ 44 ∷ t) ≡ t
  after_printed = rw (first_printed x t s) (past (signed_decimal x) t)

commas_more : (x : ℤ) (xs : List ℤ) → 0 < length xs → commas (x ∷ xs) ≡ signed_decimal x ++ 44 ∷ commas xs
commas_more x [] h = absurd (omega arith)
commas_more x (y ∷ ys) h = refl

-- a text is the k numbers xs
abbrev pub Row : ℕ → List ℕ → List ℤ → Type 0
Row k bs xs = (length xs ≡ k) × (bs ≡ commas xs) × AllByRecursion Short xs

pub row_reads : (k : ℕ) (bs : List ℕ) (xs : List ℤ) → numbers_of (suc k) bs ≡ Ok xs → Row (suc k) bs xs
unfolding numbers_of
row_reads zero bs xs h =
    let a = then_ok (λ x. Ok (x ∷ [])) (number_of bs) xs h in
    let e : a.0 ∷ [] ≡ xs = cc a.2 in
    let p = (printed bs).reads a.0 a.1 in
    subst (Row 1 bs) e (refl, p.0, (p.1, tt))
row_reads (suc k) bs xs h =
    let behind = after_first is_comma bs in
    let a = then_ok (λ x. then (λ ys. Ok (x ∷ ys)) (numbers_of (suc k) behind)) (number_of (before_first is_comma bs)) xs h in
    let b = then_ok (λ ys. Ok (a.0 ∷ ys)) (numbers_of (suc k) behind) xs a.2 in
    let e : a.0 ∷ b.0 ≡ xs = cc b.2 in
    let p = (printed (before_first is_comma bs)).reads a.0 a.1 in
    let q = row_reads k behind b.0 b.1 in
    let some : position_or_len is_comma bs < length bs =
    ⊎_elim (λ l. l) (λ l. let n = drop_all (position_or_len is_comma bs + 1) bs (omega arith) in cc (b.1, no_more k)) (cases_lt (position_or_len is_comma bs) (length bs)) in
    let w : bs ≡ signed_decimal a.0 ++ 44 ∷ commas b.0 = cut bs some ∙ (λ i. p.0 i ++ 44 ∷ q.1 i) in
    subst (Row (suc (suc k)) bs) e (ap suc q.0, w ∙ sym (commas_more a.0 b.0 (omega (arith, q.0))), (p.1, q.2))

pub row_spells : (x : ℤ) (xs : List ℤ) → AllByRecursion Short (x ∷ xs) → numbers_of (suc (length xs)) (commas (x ∷ xs)) ≡ Ok (x ∷ xs)
unfolding numbers_of
row_spells x [] s = rw ((printed (signed_decimal x)).prints x refl s.0)
row_spells x (y ∷ ys) s =
    rw (before_printed x (commas (y ∷ ys)) s.0, (printed (signed_decimal x)).prints x refl s.0, after_printed x (commas (y ∷ ys)) s.0, row_spells y ys s.1)
