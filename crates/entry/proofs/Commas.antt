-- One more number of a text of several.
use Rattle.std.proofs.Common.{◌≡◌, ℕ, zero, suc, ◌+◌, ◌-◌, ◌<◌, ◌≤◌, false, List, [], ◌∷◌, ◌++◌, length, get_or, take, drop, set, ℤ, pos, negsuc, Ok, Err, Result, decimal, sym, refl, ap, ◌∙◌, subst, add-one, arith, length-append, length-set}
use Rattle.std.proofs.lemmas.Bool.Decides.{nat_tests}
use Rattle.std.proofs.lemmas.Fmt.{decimal_is_IsNumeral}
use Rattle.std.proofs.lemmas.List.{drop_all, get_or_append_left, get_or_at, take_all, take_more_set}
use Rattle.std.proofs.lemmas.List.Sums.{position_or_len_is}
use Rattle.std.proofs.lemmas.Str.Parse.{digit_at}
use Rattle.std.specs.Fmt.{signed_decimal}
use Rattle.std.specs.List.{after_first, before_first, position_or_len}
use Rattle.std.specs.Str.Parse.{AllDigits}
use Rattle.fault.proofs.Passed.{with, with_more}
use Rattle.fault.specs.declared.Fault.{Fault}
use Rattle.fault.specs.declared.Fault.TheVariants.{EntryForm}
use Rattle.entry.specs.Numbers.{is_comma, number_of, numbers_of}
use Rattle.entry.specs.Printed.{Short}
use Rattle.entry.proofs.Formless.{number_form}
use Rattle.entry.proofs.Spelling.{printed}

-- the first comma of a text stands at i, or there is none and i is the length
abbrev pub First : List ℕ → ℕ → Type 0
First bs i = position_or_len is_comma bs ≡ i

abbrev Commaless : List ℕ → Type 0
Commaless bs = (k : ℕ) → k < length bs → is_comma (get_or bs k 0) ≡ false

digits_commaless : (ds : List ℕ) → AllDigits 10 ds → Commaless ds
digits_commaless ds d k h = let b = digit_at ds k d h in grind (arith, nat_tests)

printed_commaless : (x : ℤ) → Short x → Commaless (signed_decimal x)
printed_commaless (pos n) s k h = digits_commaless (decimal n) (decimal_is_IsNumeral n (omega arith)).0.1 k h
printed_commaless (negsuc n) s zero h = refl
printed_commaless (negsuc n) s (suc k) h = digits_commaless (decimal (suc n)) (decimal_is_IsNumeral (suc n) (omega arith)).0.1 k (omega arith)

-- behind a printed number the first comma is the one that ends it
pub first_printed : (x : ℤ) (t : List ℕ) → Short x → First (signed_decimal x ++ 44 ∷ t) (length (signed_decimal x))
first_printed x t s =
    let ds = signed_decimal x in
    position_or_len_is is_comma (ds ++ 44 ∷ t) (length ds) 0 (omega (arith, length-append ds (44 ∷ t)))
    (λ k h. rw (get_or_append_left ds (44 ∷ t) 0 k h) (printed_commaless x s k h))
    (λ h. rw (get_or_at ds 44 t 0 (length ds) refl))

-- a text with a comma is no number
pub no_number : (bs : List ℕ) → position_or_len is_comma bs < length bs → number_of bs ≡ Err (EntryForm 0)
no_number bs h = by_answer (number_of bs) refl
  where
    by_answer : (r : Result ℤ Fault) → number_of bs ≡ r → r ≡ Err (EntryForm 0)
    by_answer (Ok x) e =
        let p = (printed bs).reads x e in
        let f : First bs (length bs) = position_or_len_is is_comma bs (length bs) 0 (omega arith) (subst Commaless (sym p.0) (printed_commaless x p.1)) (λ l. absurd (omega arith)) in
        absurd (omega arith)
    by_answer (Err f) e = ap Err (number_form bs f e)

pub no_more : (k : ℕ) → numbers_of (suc k) [] ≡ Err (EntryForm 0)
unfolding numbers_of
no_more zero = refl
no_more (suc k) = refl

pub past : (x r : List ℕ) → drop (length x + 1) (x ++ 44 ∷ r) ≡ r
past [] r = refl
past (c ∷ cs) r = rw add-one (rw add-one at (past cs r))

-- i of n numbers are found, bs is what is left of the text, and another number but the last is to come
module _ (n i : ℕ) (bs : List ℕ) (found : List ℤ) (more : i < n - 1) where
  pub stops : (f : Fault) → number_of (before_first is_comma bs) ≡ Err f → with (take i found) (numbers_of (n - i) bs) ≡ Err f
  unfolding numbers_of
  stops f h =
      let e : n - i ≡ suc (suc (n - (i + 2))) = omega arith in
      rw (e, h)

  pub ends_early : (x : ℤ) → number_of (before_first is_comma bs) ≡ Ok x → length bs ≤ position_or_len is_comma bs → with (take i found) (numbers_of (n - i) bs) ≡ Err (EntryForm 0)
  unfolding numbers_of
  ends_early x h c =
      let e : n - i ≡ suc (suc (n - (i + 2))) = omega arith in
      rw (e, h, drop_all (position_or_len is_comma bs + 1) bs (omega arith), no_more (n - (i + 2)))

  pub goes : (x : ℤ) → length found ≡ n → number_of (before_first is_comma bs) ≡ Ok x → with (take i found) (numbers_of (n - i) bs) ≡ with (take (i + 1) (set found i x)) (numbers_of (n - (i + 1)) (after_first is_comma bs))
  unfolding numbers_of
  goes x l h =
      let e : n - i ≡ suc (suc (n - (i + 2))) = omega arith in
      let d : n - (i + 1) ≡ suc (n - (i + 2)) = omega arith in
      let t = take_more_set found i x (omega arith) in
      rw (e, h, d, t) (with_more (take i found) x (numbers_of (suc (n - (i + 2))) (after_first is_comma bs)))

-- the last number
module _ (n i : ℕ) (bs : List ℕ) (found : List ℤ) (last : i + 1 ≡ n) where
  pub last_stops : (f : Fault) → number_of bs ≡ Err f → with (take i found) (numbers_of (n - i) bs) ≡ Err f
  unfolding numbers_of
  last_stops f h =
      let e : n - i ≡ suc zero = omega arith in
      rw (e, h)

  pub ends : (x : ℤ) → length found ≡ n → number_of bs ≡ Ok x → with (take i found) (numbers_of (n - i) bs) ≡ Ok (set found i x)
  unfolding numbers_of
  ends x l h =
      let e : n - i ≡ suc zero = omega arith in
      let t = take_more_set found i x (omega arith) in
      rw (e, h) (ap Ok (sym t ∙ take_all (i + 1) (set found i x) (rw length-set (omega arith))))
