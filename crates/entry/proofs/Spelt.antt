-- The text of an entry is exactly its letter and its numbers, as printing gives them.
use Rattle.std.proofs.Common.{◌≡◌, ℕ, zero, suc, Bool, true, false, cond, eqb, List, [], ◌∷◌, length, get_or, drop, ℤ, Ok, Err, Result, sym, refl, ap, ◌∙◌, subst, arith}
use Rattle.std.proofs.lemmas.Bool.Decides.{Decides-eqb}
use Rattle.std.specs.List.{AllByRecursion}
use Rattle.fault.specs.Located.{then}
use Rattle.fault.specs.declared.Fault.{Fault}
use Rattle.fault.specs.declared.Fault.TheVariants.{EntryForm}
use Rattle.entry.specs.declared.kinds.Plan.TheVariants.{Known, Unknown, Window, Marks, Gauged, Mean, Paired}
use Rattle.entry.specs.declared.kinds.Said.{Said}
use Rattle.entry.specs.declared.kinds.Said.TheVariants.{Planned, Drum, Reading, Pair, Mark}
use Rattle.entry.specs.Numbers.{numbers_of}
use Rattle.entry.specs.Forms.{nth, plan_of, mark_of, form_of, said_of}
use Rattle.entry.specs.Printed.{Short}
use Rattle.entry.specs.Spelled.{commas, numbers_in, spelled, Spelled}
use Rattle.fault.proofs.Passed.{then_ok}
use Rattle.entry.proofs.Rows.{row_reads, row_spells}
use Rattle.entry.proofs.Spelling.{rest_is}

-- the first k numbers by their places
abbrev placed : ℕ → (ℕ → ℤ) → List ℤ
placed zero at = []
placed (suc k) at = at zero ∷ placed k (λ i. at (suc i))

all_placed : (xs : List ℤ) → placed (length xs) (nth xs) ≡ xs
all_placed [] = refl
all_placed (x ∷ xs) = ap (λ l. x ∷ l) (all_placed xs)

abbrev Says : List ℕ → Said → Type 0
Says bs x = (bs ≡ spelled x) × AllByRecursion Short (numbers_in x)

-- an answer x is the entry f x, and the text says so
abbrev Reads : {X : Type 0} → (X → Said) → List ℕ → Result X Fault → Type 0
Reads {X} f bs r = (x : X) → r ≡ Ok x → Says bs (f x)

reads_none : {X : Type 0} (f : X → Said) (bs : List ℕ) → Reads f bs (Err (EntryForm 0))
reads_none f bs x h = cc

reads_cond : {X : Type 0} (f : X → Said) (bs : List ℕ) (b : Bool) (r s : Result X Fault) → (b ≡ true → Reads f bs r) → Reads f bs s → Reads f bs (cond b r s)
reads_cond f bs true r s h k = h refl
reads_cond f bs false r s h k = k

reads_then : {X : Type 0} (f : X → Said) (bs : List ℕ) (r : Result X Fault) → Reads f bs r → Reads (λ y. y) bs (then (λ x. Ok (f x)) r)
reads_then f bs r h y e =
    let a = then_ok (λ x. Ok (f x)) r y e in
    let q : f a.0 ≡ y = cc a.2 in
    subst (Says bs) q (h a.0 a.1)

-- a mark of the letter c
module _ (c : ℕ) (m : eqb c 77 ≡ true) where
  reads_sign : (d l : ℕ) (b : Bool) → spelled (Mark b) ≡ 77 ∷ l ∷ [] → eqb d l ≡ true → Reads Mark (c ∷ d ∷ []) (Ok b)
  reads_sign d l b text e x h =
      let q : b ≡ x = cc in
      subst (λ y. Says (c ∷ d ∷ []) (Mark y)) q ((λ i. (Decides-eqb c 77).0 m i ∷ (Decides-eqb d l).0 e i ∷ []) ∙ sym text, tt)

  mark_reads : (t : List ℕ) → Reads Mark (c ∷ t) (mark_of t)
  mark_reads [] = reads_none Mark (c ∷ [])
  mark_reads (d ∷ []) =
      reads_cond Mark (c ∷ d ∷ []) (eqb d 43) _ _ (reads_sign d 43 true refl)
      (reads_cond Mark (c ∷ d ∷ []) (eqb d 45) _ _ (reads_sign d 45 false refl) (reads_none Mark (c ∷ d ∷ [])))
  mark_reads (d ∷ e ∷ es) =
      let t = d ∷ e ∷ es in
      reads_cond Mark (c ∷ t) (eqb (length t) 1) _ _ (λ w. absurd (omega (arith, (Decides-eqb (length t) 1).0 w))) (reads_none Mark (c ∷ t))

-- a text of the letter c with t behind it
module _ (c : ℕ) (t : List ℕ) where
  -- the letter l has suc k numbers, of which g makes the answer; at another letter the answer is s
  reads_letter :
      {X : Type 0} (f : X → Said) (l k : ℕ) (g : List ℤ → X) (s : Result X Fault) →
      ((xs : List ℤ) → numbers_in (f (g xs)) ≡ placed (suc k) (nth xs)) →
      ((xs : List ℤ) → spelled (f (g xs)) ≡ l ∷ commas (placed (suc k) (nth xs))) →
      Reads f (c ∷ t) s →
      Reads f (c ∷ t) (cond (eqb c l) (then (λ xs. Ok (g xs)) (numbers_of (suc k) t)) s)
  reads_letter f l k g s numbers text =
      reads_cond f (c ∷ t) (eqb c l) _ s (λ e x h.
      let a = then_ok (λ xs. Ok (g xs)) (numbers_of (suc k) t) x h in
      let q : g a.0 ≡ x = cc a.2 in
      let r = row_reads k t a.0 a.1 in
      let p : placed (suc k) (nth a.0) ≡ a.0 = ap (λ n. placed n (nth a.0)) (sym r.0) ∙ all_placed a.0 in
      let w : c ∷ t ≡ l ∷ commas (placed (suc k) (nth a.0)) = (λ i. (Decides-eqb c l).0 e i ∷ (r.1 ∙ ap commas (sym p)) i) in
      subst (λ y. Says (c ∷ t) (f y)) q (w ∙ sym (text a.0), subst (AllByRecursion Short) (sym (numbers a.0 ∙ p)) r.2))

  plan_reads : Reads Planned (c ∷ t) (plan_of c t)
  plan_reads =
      reads_letter Planned 75 3 _ _ (λ xs. refl) (λ xs. refl)
      (reads_letter Planned 85 2 _ _ (λ xs. refl) (λ xs. refl)
      (reads_letter Planned 87 3 _ _ (λ xs. refl) (λ xs. refl)
      (reads_letter Planned 65 1 _ _ (λ xs. refl) (λ xs. refl)
      (reads_letter Planned 71 3 _ _ (λ xs. refl) (λ xs. refl)
      (reads_letter Planned 84 1 _ _ (λ xs. refl) (λ xs. refl)
      (reads_letter Planned 86 0 _ _ (λ xs. refl) (λ xs. refl) (reads_none Planned (c ∷ t))))))))

  form_reads : Reads (λ y. y) (c ∷ t) (form_of c t)
  form_reads =
      reads_letter (λ y. y) 68 0 _ _ (λ xs. refl) (λ xs. refl)
      (reads_letter (λ y. y) 82 0 _ _ (λ xs. refl) (λ xs. refl)
      (reads_letter (λ y. y) 80 1 _ _ (λ xs. refl) (λ xs. refl)
      (reads_cond (λ y. y) (c ∷ t) (eqb c 77) _ _
      (λ m. reads_then Mark (c ∷ t) (mark_of t) (mark_reads c m t))
      (reads_then Planned (c ∷ t) (plan_of c t) plan_reads))))

-- said_of of a text, by its first byte and the others
abbrev formed : List ℕ → Result Said Fault
formed bs = form_of (get_or bs 0 0) (drop 1 bs)

said_formed : (bs : List ℕ) → said_of bs ≡ formed bs
said_formed bs = ap (form_of (get_or bs 0 0)) (rest_is bs)

formed_reads : (bs : List ℕ) → Reads (λ y. y) bs (formed bs)
formed_reads [] = reads_none (λ y. y) []
formed_reads (c ∷ t) = form_reads c t

formed_spells : (x : Said) → AllByRecursion Short (numbers_in x) → formed (spelled x) ≡ Ok x
formed_spells (Planned (Known n l s k)) h = rw (row_spells n (l ∷ s ∷ k ∷ []) h)
formed_spells (Planned (Unknown n l k)) h = rw (row_spells n (l ∷ k ∷ []) h)
formed_spells (Planned (Window n l u k)) h = rw (row_spells n (l ∷ u ∷ k ∷ []) h)
formed_spells (Planned (Marks n a)) h = rw (row_spells n (a ∷ []) h)
formed_spells (Planned (Gauged n l u a)) h = rw (row_spells n (l ∷ u ∷ a ∷ []) h)
formed_spells (Planned (Mean n m)) h = rw (row_spells n (m ∷ []) h)
formed_spells (Planned (Paired n)) h = rw (row_spells n [] h)
formed_spells (Drum a) h = rw (row_spells a [] h)
formed_spells (Reading a) h = rw (row_spells a [] h)
formed_spells (Pair a b) h = rw (row_spells a (b ∷ []) h)
formed_spells (Mark true) h = refl
formed_spells (Mark false) h = refl

pub spelt : (bs : List ℕ) → Spelled bs (said_of bs)
spelt bs = record {
  reads = λ x h. formed_reads bs x (sym (said_formed bs) ∙ h);
  spells = λ x e s. said_formed bs ∙ ap formed e ∙ formed_spells x s;
}

pub spelled_from : (bs : List ℕ) (r : Result Said Fault) → r ≡ said_of bs → Spelled bs r
spelled_from bs r e = subst (Spelled bs) (sym e) (spelt bs)
