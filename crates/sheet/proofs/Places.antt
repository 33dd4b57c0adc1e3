-- What the place of an entry tells.
use Rattle.std.proofs.Common.{◌≡◌, ℕ, zero, suc, ◌+◌, ◌-◌, ◌*◌, ◌<◌, ◌≤◌, Bool, true, false, cond, ◌⊎◌, List, length, get_or, Some, None, Ok, Err, Option, refl, ◌∙◌, subst, inl, inr, ⊎_elim, arith}
use Rattle.std.proofs.lemmas.List.Edits.{length-between}
use Rattle.std.proofs.lemmas.List.{get_or_past}
use Rattle.std.proofs.lemmas.Bool.{cases_lt}
use Rattle.std.proofs.lemmas.Bool.Decides.{nat_tests}
use Rattle.fault.specs.declared.Fault.TheVariants.{SheetSize}
use Rattle.sheet.specs.Rules.{Placed, Sized}
use Rattle.sheet.specs.Table.{count_of, end_at, end_before, misplaced, offset_at, part_at, placed, size_at, sized, table_of, unless}

-- a pair beyond the sheet has no length from 1 to 48
pub beyond : (s : List ℕ) (i : ℕ) → length s < 2 + 4 * i + 4 → placed s i ≡ false
beyond s i h =
    let low : get_or s (4 + 4 * i + 1) 0 ≡ 0 = get_or_past s (4 + 4 * i + 1) 0 (omega arith) in
    grind (arith, nat_tests)

-- the pair of an entry in its place lies in the sheet
pub pair_within : (s : List ℕ) (i : ℕ) → placed s i ≡ true → 2 + 4 * i + 4 ≤ length s
pair_within s i p = ⊎_elim (λ h. let f = beyond s i h in absurd (cc)) (λ h. h) (cases_lt (length s) (2 + 4 * i + 4))

pub sized_is : (s : List ℕ) → sized s ≡ true → Sized s
sized_is s h =
    record {
      long_enough = grind (arith, nat_tests);
      short_enough = grind (arith, nat_tests);
      some = grind (arith, nat_tests);
      table = grind (arith, nat_tests);
    }

pub unsized : (s : List ℕ) → sized s ≡ false → Sized s → ⊥
unsized s h z = grind (arith, nat_tests)

previous : (s : List ℕ) (i j : ℕ) → i ≡ j + 1 → end_before s i ≡ end_at s j
previous s i j e = let b : i - 1 ≡ j = omega arith in grind (arith, nat_tests)

pub placed_is : (s : List ℕ) (i : ℕ) → placed s i ≡ true → Placed s i
placed_is s i h =
    let p : end_before s i ≤ offset_at s i = grind (arith, nat_tests) in
    record {
      some = grind (arith, nat_tests);
      short = grind (arith, nat_tests);
      behind_table = grind (arith, nat_tests);
      behind_previous = λ j e. omega (arith, previous s i j e);
      within = grind (arith, nat_tests);
    }

behind : (s : List ℕ) (i : ℕ) → Placed s i → end_before s i ≤ offset_at s i
behind s zero p = omega arith
behind s (suc j) p = let e : suc j ≡ j + 1 = omega arith in omega (arith, previous s (suc j) j e, p.behind_previous j e)

pub placed_true : (s : List ℕ) (i : ℕ) → Placed s i → placed s i ≡ true
placed_true s i p = let b = behind s i p in grind (arith, nat_tests)

pub unplaced : (s : List ℕ) (i : ℕ) → placed s i ≡ false → Placed s i → ⊥
unplaced s i h p = cc (placed_true s i p)

-- the entries from i on, of the first m
pub misplaced_from : (s : List ℕ) (m i : ℕ) → i < m → misplaced s (m - i) i ≡ cond (placed s i) (misplaced s (m - (i + 1)) (i + 1)) (Some i)
unfolding misplaced
misplaced_from s m i h = let e : m - i ≡ suc (m - (i + 1)) = omega arith in rw e

pub misplaced_none : (s : List ℕ) (m i : ℕ) → m ≤ i → misplaced s (m - i) i ≡ None
unfolding misplaced
misplaced_none s m i h = let e : m - i ≡ 0 = omega arith in rw e

none_found : (b : Bool) (r : Option ℕ) (i : ℕ) → cond b r (Some i) ≡ None → (b ≡ true) × (r ≡ None)
none_found true r i h = (refl, h)
none_found false r i h = cc

one_found : (b : Bool) (r : Option ℕ) (i n : ℕ) → cond b r (Some i) ≡ Some n → ((b ≡ true) × (r ≡ Some n)) ⊎ ((b ≡ false) × (i ≡ n))
one_found true r i n h = inl (refl, h)
one_found false r i n h = inr (refl, cc)

-- each of the k entries from i on is in its place
pub none_misplaced : (s : List ℕ) (k i j : ℕ) → misplaced s k i ≡ None → i ≤ j → j < i + k → placed s j ≡ true
unfolding misplaced
none_misplaced s zero i j h a b = absurd (omega arith)
none_misplaced s (suc k) i j h a b =
    let p = none_found (placed s i) (misplaced s k (i + 1)) i h in
    ⊎_elim (λ l. none_misplaced s k (i + 1) j p.1 (omega arith) (omega arith)) (λ l. let e : j ≡ i = omega arith in rw e p.0) (cases_lt i j)

-- the first that is not, and those before it
pub first_misplaced : (s : List ℕ) (k i n : ℕ) → misplaced s k i ≡ Some n → (n < i + k) × (placed s n ≡ false) × ((j : ℕ) → i ≤ j → j < n → placed s j ≡ true)
unfolding misplaced
first_misplaced s zero i n h = cc
first_misplaced s (suc k) i n h =
    ⊎_elim
    (λ p.
    let q = first_misplaced s k (i + 1) n p.1 in
    (omega (arith, q.0), q.1, λ j a b. ⊎_elim (λ l. q.2 j (omega arith) b) (λ l. let e : j ≡ i = omega arith in rw e p.0) (cases_lt i j)))
    (λ p. (omega arith, subst (λ m. placed s m ≡ false) p.1 p.0, λ j a b. absurd (omega arith)))
    (one_found (placed s i) (misplaced s k (i + 1)) i n h)

-- where the table is sound, each entry is in its place, and its pair lies in the sheet
pub sound_place : (s : List ℕ) (m i : ℕ) → table_of s ≡ Ok m → i < m → (placed s i ≡ true) × (2 + 4 * i + 4 ≤ length s) × (end_at s i ≤ length s)
sound_place s m i h l = by_table (sized s) (misplaced s (count_of s) 0) refl refl h
  where
    by_table : (b : Bool) (o : Option ℕ) → sized s ≡ b → misplaced s (count_of s) 0 ≡ o → cond b (unless (count_of s) o) (Err SheetSize) ≡ Ok m → (placed s i ≡ true) × (2 + 4 * i + 4 ≤ length s) × (end_at s i ≤ length s)
    by_table false o e g h = cc
    by_table true (Some j) e g h = cc
    by_table true None e g h =
        let n : count_of s ≡ m = cc in
        let p = none_misplaced s (count_of s) 0 i g (omega arith) (omega arith) in
        (p, omega (arith, (sized_is s e).table), (placed_is s i p).within)

-- an entry ends before any later one begins
pub apart : (s : List ℕ) (i j : ℕ) → ((k : ℕ) → k ≤ j → Placed s k) → i < j → end_at s i ≤ offset_at s j
apart s i zero p h = absurd (omega arith)
apart s i (suc j) p h =
    let e : suc j ≡ j + 1 = omega arith in
    let last = (p (suc j) (omega arith)).behind_previous j e in
    ⊎_elim (λ l. omega (arith, apart s i j (λ k m. p k (omega arith)) l, last)) (λ l. let q : i ≡ j = omega arith in rw q last) (cases_lt i j)

pub part_size : (s : List ℕ) (i : ℕ) → Placed s i → length (part_at s i) ≡ size_at s i
part_size s i p = length-between s (offset_at s i) (end_at s i) p.within ∙ omega arith
