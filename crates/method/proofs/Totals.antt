-- What the laws give of totals: order does not matter.
use Rattle.std.proofs.Common.{◌≡◌, ℕ, zero, suc, ◌<◌, true, List, [], ◌∷◌, length, get_or, set, sym, refl, ap, ◌∙◌, arith}
use Rattle.std.specs.List.Sorted.{IsPermutation}
use Rattle.std.specs.List.{swap}
use Rattle.std.proofs.lemmas.List.Sorted.{IsPermutation-keeps}
use Rattle.std.proofs.ByRecursion.{All-set, All-get_or}
use Rattle.method.specs.Meaning.{Meaning, Laws, Taken}

module _ {R X : Type 0} (m : Meaning R X) (laws : Laws m) where
  abbrev pub one : R → X
  one r = m.total (r ∷ [])

  -- x, y, z with the first two exchanged
  turn : (x y z : X) → m.join x (m.join y z) ≡ m.join y (m.join x z)
  turn x y z = sym (laws.assoc x y z) ∙ ap (λ w. m.join w z) (laws.comm x y) ∙ laws.assoc y x z

  pub total_cons : (r : R) (xs : List R) → m.takes r ≡ true → Taken m xs → m.total (r ∷ xs) ≡ m.join (one r) (m.total xs)
  total_cons r xs h hs = laws.appended (r ∷ []) xs (h, tt) hs

  -- the list with the i-th element left out
  without : List R → ℕ → List R
  without [] i = []
  without (x ∷ xs) zero = xs
  without (x ∷ xs) (suc i) = x ∷ without xs i

  taken_without : (xs : List R) (i : ℕ) → Taken m xs → Taken m (without xs i)
  unfolding without
  taken_without [] i h = tt
  taken_without (x ∷ xs) zero h = h.1
  taken_without (x ∷ xs) (suc i) h = (h.0, taken_without xs i h.1)

  -- an element put in at i comes to the front
  set_front : (xs : List R) (i : ℕ) (v : R) → i < length xs → m.takes v ≡ true → Taken m xs → m.total (set xs i v) ≡ m.join (one v) (m.total (without xs i))
  unfolding without
  set_front [] i v lt hv h = absurd (omega arith)
  set_front (x ∷ xs) zero v lt hv h = total_cons v xs hv h.1
  set_front (x ∷ xs) (suc i) v lt hv h =
      let ih = set_front xs i v (omega arith) hv h.1 in
      total_cons x (set xs i v) h.0 (All-set (λ r. m.takes r ≡ true) xs i v hv h.1)
      ∙ ap (m.join (one x)) ih
      ∙ turn (one x) (one v) (m.total (without xs i))
      ∙ ap (m.join (one v)) (sym (total_cons x (without xs i) h.0 (taken_without xs i h.1)))

  self_front : (xs : List R) (i : ℕ) (d : R) → i < length xs → Taken m xs → m.total xs ≡ m.join (one (get_or xs i d)) (m.total (without xs i))
  unfolding without
  self_front [] i d lt h = absurd (omega arith)
  self_front (x ∷ xs) zero d lt h = total_cons x xs h.0 h.1
  self_front (x ∷ xs) (suc i) d lt h =
      let ih = self_front xs i d (omega arith) h.1 in
      total_cons x xs h.0 h.1 ∙ ap (m.join (one x)) ih ∙ turn (one x) (one (get_or xs i d)) (m.total (without xs i))
      ∙ ap (m.join (one (get_or xs i d))) (sym (total_cons x (without xs i) h.0 (taken_without xs i h.1)))

  -- two elements exchanged, read at any default
  swap_total : (xs : List R) (i j : ℕ) (d : R) → i < length xs → j < length xs → Taken m xs → m.total (set (set xs i (get_or xs j d)) j (get_or xs i d)) ≡ m.total xs
  swap_total [] i j d p q h = absurd (omega arith)
  swap_total (x ∷ xs) zero zero d p q h = refl
  swap_total (x ∷ xs) zero (suc j) d p q h =
      let lt : j < length xs = omega arith in
      let y = get_or xs j d in
      let hy : m.takes y ≡ true = All-get_or (λ r. m.takes r ≡ true) xs j d lt h.1 in
      total_cons y (set xs j x) hy (All-set (λ r. m.takes r ≡ true) xs j x h.0 h.1)
      ∙ ap (m.join (one y)) (set_front xs j x lt h.0 h.1)
      ∙ turn (one y) (one x) (m.total (without xs j))
      ∙ ap (m.join (one x)) (sym (self_front xs j d lt h.1))
      ∙ sym (total_cons x xs h.0 h.1)
  swap_total (x ∷ xs) (suc i) zero d p q h =
      let lt : i < length xs = omega arith in
      let y = get_or xs i d in
      let hy : m.takes y ≡ true = All-get_or (λ r. m.takes r ≡ true) xs i d lt h.1 in
      total_cons y (set xs i x) hy (All-set (λ r. m.takes r ≡ true) xs i x h.0 h.1)
      ∙ ap (m.join (one y)) (set_front xs i x lt h.0 h.1)
      ∙ turn (one y) (one x) (m.total (without xs i))
      ∙ ap (m.join (one x)) (sym (self_front xs i d lt h.1))
      ∙ sym (total_cons x xs h.0 h.1)
  swap_total (x ∷ xs) (suc i) (suc j) d p q h =
      let p' : i < length xs = omega arith in
      let q' : j < length xs = omega arith in
      let hj = All-get_or (λ r. m.takes r ≡ true) xs j d q' h.1 in
      let hi = All-get_or (λ r. m.takes r ≡ true) xs i d p' h.1 in
      total_cons x (set (set xs i (get_or xs j d)) j (get_or xs i d)) h.0
      (All-set (λ r. m.takes r ≡ true) (set xs i (get_or xs j d)) j (get_or xs i d) hi (All-set (λ r. m.takes r ≡ true) xs i (get_or xs j d) hj h.1))
      ∙ ap (m.join (one x)) (swap_total xs i j d p' q' h.1)
      ∙ sym (total_cons x xs h.0 h.1)

  exchanged_total : (xs : List R) (i j : ℕ) → i < length xs → j < length xs → Taken m xs → m.total (swap xs i j) ≡ m.total xs
  exchanged_total [] i j p q h = refl
  exchanged_total (d ∷ xs) i j p q h = swap_total (d ∷ xs) i j d p q h

  exchanged_taken : (xs : List R) (i j : ℕ) → i < length xs → j < length xs → Taken m xs → Taken m (swap xs i j)
  exchanged_taken [] i j p q h = tt
  exchanged_taken (d ∷ xs) i j p q h =
      All-set (λ r. m.takes r ≡ true) (set (d ∷ xs) i (get_or (d ∷ xs) j d)) j (get_or (d ∷ xs) i d) (All-get_or (λ r. m.takes r ≡ true) (d ∷ xs) i d p h)
      (All-set (λ r. m.takes r ≡ true) (d ∷ xs) i (get_or (d ∷ xs) j d) (All-get_or (λ r. m.takes r ≡ true) (d ∷ xs) j d q h) h)

  -- the same readings in another order, repeats counted, have the same total
  pub total_shuffled : (xs ys : List R) → IsPermutation xs ys → Taken m xs → m.total ys ≡ m.total xs
  total_shuffled xs ys s h =
      (IsPermutation-keeps xs (λ l. (m.total l ≡ m.total xs) × Taken m l) (refl, h)
      (λ l i j p q k. (exchanged_total l i j p q k.1 ∙ k.0, exchanged_taken l i j p q k.1)) ys s).0
