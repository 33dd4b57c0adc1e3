-- A text is a number exactly when it is what printing that number gives.
use Rattle.std.proofs.Common.{◌≡◌, ℕ, zero, suc, ◌+◌, ◌-◌, ◌*◌, ◌^◌, ◌<◌, ◌≤◌, Bool, true, false, cond, not, ◌&&◌, eqb, leb, List, [], ◌∷◌, length, get_or, drop, ℤ, pos, negsuc, neg_ℤ, Some, None, Ok, decimal, Option, Result, sym, refl, ap, ◌∙◌, subst, arith, rules}
use Rattle.std.proofs.lemmas.Bool.Decides.{nat_tests}
use Rattle.std.proofs.lemmas.Str.Parse.{IsNumeralModel, numerals_by_fold, digits_value_short}
use Rattle.std.proofs.lemmas.Fmt.{decimal-digits_value, digits_decimal, digits_value-decimal, length-decimal-le, decimal_nonempty, first_decimal, decimal_digit}
use Rattle.std.proofs.lemmas.Slice.{between_to_end}
use Rattle.std.specs.Option.{option_map, ok_or}
use Rattle.std.specs.Fmt.{signed_decimal}
use Rattle.std.specs.Str.{all_ascii_digits}
use Rattle.std.specs.List.{between}
use Rattle.fault.specs.declared.Fault.{Fault}
use Rattle.fault.specs.declared.Fault.TheVariants.{EntryForm}
use Rattle.entry.specs.Numbers.{digit, digits_after, digits_of, signed_of, number_of}
use Rattle.entry.specs.Printed.{Short, Printed}

abbrev read_on : ℕ → List ℕ → ℕ
read_on n [] = n
read_on n (c ∷ cs) = read_on (n * 10 + (c - 48)) cs

own : IsNumeralModel (λ ds. all_ascii_digits ds ≡ true) (read_on 0)
own = numerals_by_fold _ (search rules) read_on (search rules)

pick : (b : Bool) (r : Option ℕ) (m : ℕ) → cond b r None ≡ Some m → (b ≡ true) × (r ≡ Some m)
pick true r m h = (refl, h)
pick false r m h = cc

halves : (a b : Bool) → (a && b) ≡ true → (a ≡ true) × (b ≡ true)
halves true b h = (refl, h)
halves false b h = grind arith

reads : (n m : ℕ) (ds : List ℕ) → digits_after n ds ≡ Some m → (all_ascii_digits ds ≡ true) × (read_on n ds ≡ m)
reads n m [] h = (refl, cc)
reads n m (c ∷ cs) h =
    let p = pick (digit c) _ m h in
    let q = reads (n * 10 + (c - 48)) m cs p.1 in
    (rw p.0 q.0, q.1)

back : (n : ℕ) (ds : List ℕ) → all_ascii_digits ds ≡ true → digits_after n ds ≡ Some (read_on n ds)
back n [] h = refl
back n (c ∷ cs) h = let p = halves (digit c) (all_ascii_digits cs) h in rw p.0 (back (n * 10 + (c - 48)) cs p.1)

shape : (ds : List ℕ) → (leb 1 (length ds) && leb (length ds) 7 && not (eqb (get_or ds 0 0) 48)) ≡ true → (0 < length ds) × (length ds ≤ 7) × (get_or ds 0 0 ≡ 48 → ⊥)
shape ds h = grind (arith, nat_tests)

shaped : (ds : List ℕ) → 0 < length ds → length ds ≤ 7 → 48 < get_or ds 0 0 → (leb 1 (length ds) && leb (length ds) 7 && not (eqb (get_or ds 0 0) 48)) ≡ true
shaped ds a b d = grind (arith, nat_tests)

digits_to : (ds : List ℕ) (m : ℕ) → digits_of 7 ds ≡ Some m → (ds ≡ decimal m) × (m < 10 ^ 7) × (get_or ds 0 0 ≡ 48 → ⊥) × (0 < length ds)
digits_to ds m h =
    let p = pick _ (digits_after 0 ds) m h in
    let s = shape ds p.0 in
    let q = reads 0 m ds p.1 in
    let b = digits_value_short own ds 7 q.0 s.1 in
    let e : decimal (read_on 0 ds) ≡ ds = decimal-digits_value own ds q.0 s.0 (λ z. absurd (s.2 z)) (omega arith) in
    (sym e ∙ ap decimal q.1, omega (arith, q.1), s.2, s.0)

digits_from : (n : ℕ) → 0 < n → n < 10 ^ 7 → digits_of 7 (decimal n) ≡ Some n
digits_from n a b =
    let w : n < 2 ^ 64 = omega arith in
    let s = shaped (decimal n) (decimal_nonempty n w) (length-decimal-le 7 n (omega arith) b w) (first_decimal n a w) in
    rw s (back 0 (decimal n) (digits_decimal own n w) ∙ ap Some (digits_value-decimal own n w))

pub rest_is : (bs : List ℕ) → between 1 (length bs) bs ≡ drop 1 bs
rest_is bs = between_to_end bs 1 (length bs) (omega arith)

single : (bs : List ℕ) → (eqb (length bs) 1 && eqb (get_or bs 0 0) 48) ≡ true → bs ≡ 48 ∷ []
single [] h = grind (arith, nat_tests)
single (x ∷ []) h = let e : x ≡ 48 = grind (arith, nat_tests) in ap (λ y. y ∷ []) e
single (x ∷ y ∷ ys) h = let e : length (x ∷ y ∷ ys) ≡ 1 = grind (arith, nat_tests) in absurd (omega arith)

led : (bs : List ℕ) → eqb (get_or bs 0 0) 45 ≡ true → bs ≡ 45 ∷ drop 1 bs
led [] h = grind (arith, nat_tests)
led (x ∷ xs) h = let e : x ≡ 45 = grind (arith, nat_tests) in ap (λ y. y ∷ xs) e

nought : decimal 0 ≡ 48 ∷ []
nought = decimal_digit 0 (omega arith)

positive : (ds : List ℕ) (m : ℕ) → ds ≡ decimal m → (get_or ds 0 0 ≡ 48 → ⊥) → 0 < m
positive ds zero e ne = absurd (ne (ap (λ l. get_or l 0 0) (e ∙ nought)))
positive ds (suc k) e ne = omega arith

some_of : {X Y : Type 0} (f : X → Y) (o : Option X) (y : Y) → option_map f o ≡ Some y → (x : X) × (o ≡ Some x) × (f x ≡ y)
some_of f None y h = cc
some_of f (Some x) y h = (x, refl, cc)

negated : (m : ℕ) → 0 < m → m < 10 ^ 7 → (signed_decimal (neg_ℤ (pos m)) ≡ 45 ∷ decimal m) × Short (neg_ℤ (pos m))
negated zero a b = absurd (omega arith)
negated (suc k) a b = (refl, b)

abbrev Says : List ℕ → ℤ → Type 0
Says bs z = (bs ≡ signed_decimal z) × Short z

to : (bs : List ℕ) (z : ℤ) (a b : Bool) → (eqb (length bs) 1 && eqb (get_or bs 0 0) 48) ≡ a → eqb (get_or bs 0 0) 45 ≡ b → cond a (Some (pos 0)) (cond b (option_map (λ n. neg_ℤ (pos n)) (digits_of 7 (between 1 (length bs) bs))) (option_map pos (digits_of 7 bs))) ≡ Some z → Says bs z
to bs z true b ea eb h =
    let e : pos 0 ≡ z = cc in
    subst (Says bs) e (single bs ea ∙ sym nought, omega arith)
to bs z false true ea eb h =
    let w = some_of (λ n. neg_ℤ (pos n)) (digits_of 7 (between 1 (length bs) bs)) z h in
    let d = digits_to (between 1 (length bs) bs) w.0 w.1 in
    let g = negated w.0 (positive (between 1 (length bs) bs) w.0 d.0 d.2) d.1 in
    subst (Says bs) w.2 (led bs eb ∙ ap (λ l. 45 ∷ l) (sym (rest_is bs) ∙ d.0) ∙ sym g.0, g.1)
to bs z false false ea eb h =
    let w = some_of pos (digits_of 7 bs) z h in
    let d = digits_to bs w.0 w.1 in
    subst (Says bs) w.2 (d.0, d.1)

unzero : (ds : List ℕ) → 48 < get_or ds 0 0 → (eqb (length ds) 1 && eqb (get_or ds 0 0) 48) ≡ false
unzero ds h = grind (arith, nat_tests)

unminus : (ds : List ℕ) → 48 < get_or ds 0 0 → eqb (get_or ds 0 0) 45 ≡ false
unminus ds h = grind (arith, nat_tests)

nor : (b : Bool) → (b && false) ≡ false
nor true = refl
nor false = refl

from : (z : ℤ) → Short z → signed_of (signed_decimal z) ≡ Some z
from (pos zero) h = ap signed_of nought
from (pos (suc k)) h =
    let w : suc k < 2 ^ 64 = omega arith in
    let f = first_decimal (suc k) (omega arith) w in
    let g = unminus (decimal (suc k)) f in
    rw (unzero (decimal (suc k)) f, g, digits_from (suc k) (omega arith) h)
from (negsuc k) h = rw (nor (eqb (length (signed_decimal (negsuc k))) 1), rest_is (signed_decimal (negsuc k)), digits_from (suc k) (omega arith) h)

some_read : (o : Option ℤ) (f : Fault) (z : ℤ) → ok_or o f ≡ Ok z → o ≡ Some z
some_read None f z h = cc
some_read (Some x) f z h = cc

pub printed : (bs : List ℕ) → Printed bs (number_of bs)
printed bs = record {
  reads = λ z h. to bs z _ _ refl refl (some_read (signed_of bs) (EntryForm 0) z h);
  prints = λ z e s. ap number_of e ∙ ap (λ o. ok_or o (EntryForm 0)) (from z s);
}

pub printed_from : (bs : List ℕ) (r : Result ℤ Fault) → r ≡ number_of bs → Printed bs r
printed_from bs r e = subst (Printed bs) (sym e) (printed bs)
