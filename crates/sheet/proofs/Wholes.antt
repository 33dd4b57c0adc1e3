-- A whole sheet is taken or refused by the rules.
use Rattle.std.proofs.Common.{◌≡◌, ℕ, zero, suc, ◌+◌, ◌<◌, ◌≤◌, Bool, true, false, cond, List, [], ◌∷◌, ◌++◌, length, get_or, Some, None, Ok, Err, Option, Result, sym, refl, ap, ◌∙◌, subst, inl, inr, ⊎_elim, arith}
use Rattle.std.proofs.lemmas.List.{append-nil, get_or_append_left, get_or_push, length-map, length_push, map_push}
use Rattle.std.proofs.lemmas.Bool.{cases_lt}
use Rattle.std.specs.List.{between}
use Rattle.fault.specs.Located.{located, then}
use Rattle.fault.specs.declared.Fault.{Fault}
use Rattle.fault.specs.declared.Fault.TheVariants.{SheetSize, EntryForm, EntryOrder}
use Rattle.entry.proofs.Formless.{only_form}
use Rattle.entry.specs.Entries.{Place}
use Rattle.entry.specs.Forms.{said_of}
use Rattle.entry.specs.declared.kinds.Said.{Said}
use Rattle.sheet.proofs.Orders.{Reached, reached_more, reached_order, reached_stops}
use Rattle.sheet.proofs.Places.{apart, first_misplaced, none_misplaced, part_size, placed_is, placed_true, sized_is, unplaced, unsized}
use Rattle.fault.proofs.Passed.{with, with_more, with_none}
use Rattle.sheet.specs.Order.{followed}
use Rattle.sheet.specs.Reading.{Item, item, place_at, standing}
use Rattle.sheet.specs.Rules.{Begins, Lies, Ordered, Placed, Read, ReadByRules, Refused, Sized, Taken, says}
use Rattle.sheet.specs.Rules.Refused.{wrong_size, misplaced, formless, disordered}
use Rattle.sheet.specs.Sheets.{Answered, items_from, sheet_of}
use Rattle.sheet.specs.Table as table
use Rattle.sheet.specs.Table.{count_of, end_at, offset_at, part_at, size_at, sized, table_end, table_of, unless}
use Rattle.sheet.specs.declared.order.Stage.{Stage}
use Rattle.sheet.specs.declared.order.Stage.TheVariants.{BeforePlan}

begins_none : (s : List ℕ) → Begins s []
begins_none s = record { said = λ i d h. absurd (omega arith); part = λ i d h. absurd (omega arith); order = λ h. absurd (omega arith) }

begins_more : (s : List ℕ) (xs : List Item) (x : Said) → Begins s xs → said_of (part_at s (length xs)) ≡ Ok x → Ordered (says (xs ++ item s (length xs) x ∷ [])) → Begins s (xs ++ item s (length xs) x ∷ [])
begins_more s xs x b h o =
    record {
      said = λ i d l. ⊎_elim
          (λ k. b.said i d k ∙ ap (λ (y : Item). Ok y.says) (sym (get_or_append_left xs (new ∷ []) d i k)))
          (λ k. let e : length xs ≡ i = omega (arith, length_push xs new) in subst (λ j. said_of (part_at s j) ≡ Ok x) e h ∙ ap (λ (y : Item). Ok y.says) (sym (get_or_push xs new d i e)))
          (cases_lt i (length xs));
      part = λ i d l. ⊎_elim
          (λ k. ap (λ (y : Item). y.part) (get_or_append_left xs (new ∷ []) d i k) ∙ b.part i d k)
          (λ k. let e : length xs ≡ i = omega (arith, length_push xs new) in ap (λ (y : Item). y.part) (get_or_push xs new d i e) ∙ ap (place_at s) e)
          (cases_lt i (length xs));
      order = λ _. o;
    }
  where
    new : Item
    new = item s (length xs) x

-- a sheet whose table is sound
module _ (s : List ℕ) (fits : Sized s) (places : (j : ℕ) → j < count_of s → Placed s j) where
  lies_at : (xs : List Item) → Begins s xs → length xs ≡ count_of s → (i : ℕ) (d : Item) → i < length xs → Lies s (get_or xs i d).part
  lies_at xs b e i d l =
      let p = places i (omega arith) in
      subst (Lies s) (sym (b.part i d l))
      (record {
        behind_table = p.behind_table;
        within = omega (arith, part_size s i p, p.within);
        bytes = ap (λ n. between (offset_at s i) (offset_at s i + n) s) (sym (part_size s i p));
      })

  apart_at : (xs : List Item) → Begins s xs → length xs ≡ count_of s → (i j : ℕ) (d : Item) → i < j → j < length xs → (get_or xs i d).part.offset + length (get_or xs i d).part.bytes ≤ (get_or xs j d).part.offset
  apart_at xs b e i j d h l =
      let k : i < length xs = omega arith in
      let a = apart s i j (λ n m. places n (omega arith)) h in
      let f = ap (λ (p : Place). p.offset + length p.bytes) (b.part i d k) in
      let g = ap (λ (p : Place). p.offset) (b.part j d l) in
      omega (arith, a, f, g, part_size s i (places i (omega arith)))

  taken : (xs : List Item) → Begins s xs → length xs ≡ count_of s → Taken s xs
  taken xs b e = record { sized = fits; placed = places; all = e; entries = b; lies = lies_at xs b e; apart = apart_at xs b e }

  -- the entries xs are read, the sheet is at stage t, and k entries are still to come
  run : (k i : ℕ) (t : Stage) (xs : List Item) → length xs ≡ i → Begins s xs → Reached t (says xs) → i + k ≡ count_of s → Read s (with xs (items_from s k i t))
  unfolding items_from
  run zero i t xs l b r e = subst (Taken s) (sym (append-nil xs)) (taken xs b (omega arith))
  run (suc k) i t xs l b r e = rw (placed_true s i (places i (omega arith))) (by_form (λ u ys n c q. run k (i + 1) u ys n c q (omega arith)) (said_of (part_at s i)) refl)
    where
      Later : Type 0
      Later = (u : Stage) (ys : List Item) → length ys ≡ i + 1 → Begins s ys → Reached u (says ys) → Read s (with ys (items_from s k (i + 1) u))

      Goes : Result Said Fault → Type 0
      Goes q = Read s (with xs (then (λ p. then (λ ys. Ok (p.0 ∷ ys)) (items_from s k (i + 1) p.1)) (then (λ x. standing s i x (followed t x)) (located (i + 1) q))))

      next_reached : (x : Said) (u : Stage) (n : ℕ) → followed t x ≡ Some u → Reached u (says (xs ++ item s n x ∷ []))
      next_reached x u n f = subst (Reached u) (sym (map_push (λ (y : Item). y.says) xs (item s n x))) (reached_more t u (says xs) x r f)

      next_order : (x : Said) (u : Stage) (n : ℕ) → followed t x ≡ Some u → Ordered (says (xs ++ item s n x ∷ []))
      next_order x u n f = reached_order u (says (xs ++ item s n x ∷ [])) (next_reached x u n f) (omega (arith, length-map (xs ++ item s n x ∷ []) (λ (y : Item). y.says), length_push xs (item s n x)))

      by_order : Later → (x : Said) (o : Option Stage) → said_of (part_at s i) ≡ Ok x → followed t x ≡ o → Read s (with xs (then (λ p. then (λ ys. Ok (p.0 ∷ ys)) (items_from s k (i + 1) p.1)) (standing s i x o)))
      by_order later x None h f =
          subst (λ n. Refused s (EntryOrder (n + 1))) l
          (disordered xs x fits places b (omega arith) (subst (λ n. said_of (part_at s n) ≡ Ok x) (sym l) h) (reached_stops t (says xs) x r f))
      by_order later x (Some u) h f =
          let new = item s i x in
          let begun = subst (λ n. Begins s (xs ++ item s n x ∷ [])) l (begins_more s xs x b (subst (λ n. said_of (part_at s n) ≡ Ok x) (sym l) h) (next_order x u (length xs) f)) in
          subst (Read s) (sym (with_more xs new (items_from s k (i + 1) u)))
          (later u (xs ++ new ∷ []) (length_push xs new ∙ ap (λ n. n + 1) l) begun (next_reached x u i f))

      by_form : Later → (q : Result Said Fault) → said_of (part_at s i) ≡ q → Goes q
      by_form later (Ok x) h = by_order later x (followed t x) h refl
      by_form later (Err g) h =
          subst (λ f. Goes (Err f)) (sym (only_form (part_at s i) g h))
          (subst (λ n. Refused s (EntryForm (n + 1))) l (formless xs fits places b (omega arith) (λ x q. no_form x (subst (λ n. said_of (part_at s n) ≡ Ok x) l q))))
        where
          no_form : (x : Said) → said_of (part_at s i) ≡ Ok x → ⊥
          no_form x q = cc

read_table : (s : List ℕ) (b : Bool) (o : Option ℕ) → sized s ≡ b → table.misplaced s (count_of s) 0 ≡ o → Read s (then (λ m. items_from s m 0 BeforePlan) (cond b (unless (count_of s) o) (Err SheetSize)))
read_table s false o h g = wrong_size (unsized s h)
read_table s true (Some i) h g =
    let f = first_misplaced s (count_of s) 0 i g in
    misplaced i (sized_is s h) (omega (arith, f.0)) (λ j l. placed_is s j (f.2 j (omega arith) l)) (unplaced s i f.1)
read_table s true None h g =
    let places : (j : ℕ) → j < count_of s → Placed s j = λ j l. placed_is s j (none_misplaced s (count_of s) 0 j g (omega arith) (omega arith)) in
    subst (Read s) (sym (with_none (items_from s (count_of s) 0 BeforePlan))) (run s (sized_is s h) places (count_of s) 0 BeforePlan [] refl (begins_none s) refl (omega arith))

-- every sheet is taken with its entries, or gets its refusal
pub read_alone : (s : List ℕ) → Read s (sheet_of s)
read_alone s = read_table s (sized s) (table.misplaced s (count_of s) 0) refl refl

-- an answer as it should be is by the rules
pub by_rules : (s : List ℕ) (r : Result (List Item) Fault) → Answered r (sheet_of s) → ReadByRules s r
by_rules s r h = ⊎_elim inl (λ e. inr (subst (Read s) (sym e) (read_alone s))) h
