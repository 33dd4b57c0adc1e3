-- The readings of a sheet that is carried out are those that stand.
use Rattle.std.proofs.Common.{◌≡◌, ℕ, zero, suc, ◌+◌, Bool, true, false, cond, ◌||◌, eqb, ltb, List, [], ◌∷◌, ◌++◌, length, Some, None, Ok, Err, Option, Result, sym, refl, ap, ◌∙◌, subst, ⊎_elim}
use Rattle.std.proofs.lemmas.List.{append_assoc}
use Rattle.std.proofs.lemmas.List.Sorted.{IsPermutation-append_comm, IsPermutation-append_left, IsPermutation-append_right, IsPermutation-middle, IsPermutation-refl, IsPermutation-sym, IsPermutation-trans}
use Rattle.std.proofs.lemmas.Bool.{both_ways, cases_Bool, cond-false, cond-true}
use Rattle.std.specs.List.Sorted.{IsPermutation}
use Rattle.fault.proofs.Passed.{located_ok, then_ok}
use Rattle.fault.specs.Located.{located}
use Rattle.fault.specs.declared.Fault.{Fault}
use Rattle.fault.specs.declared.Fault.TheVariants.{NameNotOpen, NameRange, PlanFull, ReadingNotTaken, RowFull}
use Rattle.method.specs.Meaning.{Meaning}
use Rattle.bench.proofs.Edits.{standing_push}
use Rattle.bench.specs.Calls.{named}
use Rattle.bench.specs.Ledger.{Line, add, is_open, line, reading, standing}
use Rattle.entry.specs.declared.kinds.Said.{Said}
use Rattle.entry.specs.declared.kinds.Said.TheVariants.{Planned, Drum, Reading, Pair, Mark}
use Rattle.sheet.specs.Reading.{Item, step_at}
use Rattle.sheet.specs.Rules.{says}
use Rattle.sheet.specs.Sheets.{items_from}
use Rattle.sheet.specs.declared.order.Stage.{Stage}
use Rattle.course.specs.Course.{Course, booking, carried, course_from, natural, onward}
use Rattle.course.specs.Booked.{booked_by, readings_in, some_of}

module _ {R : Type 0} where
  -- two parts in front of a list change places
  change : (a b c : List R) → IsPermutation ((a ++ b) ++ c) (b ++ (a ++ c))
  change a b c = subst (λ t. IsPermutation ((a ++ b) ++ c) t) (append_assoc b a c) (IsPermutation-append_left c (a ++ b) (b ++ a) (IsPermutation-append_comm a b))

  -- one reading more stands where one was added
  one_more : (x : ℕ) (r : R) (ls : List (Line R)) → is_open x ls ≡ true → IsPermutation (r ∷ standing ls) (standing (add x (r ∷ []) ls))
  one_more x r [] h = absurd (both_ways false refl h)
  one_more x r (l ∷ ls) h =
      let all = r ∷ (l.readings ++ standing ls) in
      let front : IsPermutation all (l.readings ++ r ∷ standing ls) = IsPermutation-sym (l.readings ++ r ∷ standing ls) all (IsPermutation-middle l.readings r (standing ls)) in
      ⊎_elim
      (λ e. subst (λ t. IsPermutation all (standing t)) (sym (cond-true (eqb l.name x) (line l.name (l.readings ++ r ∷ []) ∷ ls) (l ∷ add x (r ∷ []) ls) e))
      (subst (λ t. IsPermutation all t) (sym (append_assoc l.readings (r ∷ []) (standing ls))) front))
      (λ e. subst (λ t. IsPermutation all (standing t)) (sym (cond-false (eqb l.name x) (line l.name (l.readings ++ r ∷ []) ∷ ls) (l ∷ add x (r ∷ []) ls) e))
      (IsPermutation-trans all (l.readings ++ r ∷ standing ls) (l.readings ++ standing (add x (r ∷ []) ls)) front
      (IsPermutation-append_right l.readings (r ∷ standing ls) (standing (add x (r ∷ []) ls)) (one_more x r ls (ap (λ t. t || is_open x ls) (sym e) ∙ h)))))
      (cases_Bool (eqb l.name x))

abbrev Lines : Type 0 → Type 0
Lines R = List (Line R)

called : {R : Type 0} (a b c : Bool) (x y : ℕ) (ls ks : Lines R) → ◌≡◌ {A = Result (ℕ × Lines R) Fault} (cond a (cond b (Ok (x, ls)) (cond c (Ok (x, ls ++ line x [] ∷ [])) (Err (RowFull 0)))) (Err (NameRange 0))) (Ok (y, ks)) → standing ls ≡ standing ks
called {R} true true c x y ls ks h = let e : ◌≡◌ {A = ℕ × Lines R} (x, ls) (y, ks) = cc in ap (λ (p : ℕ × Lines _). standing p.1) e
called {R} true false true x y ls ks h = let e : ◌≡◌ {A = ℕ × Lines R} (x, ls ++ line x [] ∷ []) (y, ks) = cc in sym (standing_push x ls) ∙ ap (λ (p : ℕ × Lines _). standing p.1) e
called {R} true false false x y ls ks h = absurd (cc)
called {R} false b c x y ls ks h = absurd (cc)

entered : {R : Type 0} (a b c d : Bool) (js ks : Lines R) → ◌≡◌ {A = Result (Lines R) Fault} (cond a (cond b (cond c (cond d (Ok js) (Err (PlanFull 0))) (Err (ReadingNotTaken 0))) (Err (NameNotOpen 0))) (Err (NameRange 0))) (Ok ks) → (b ≡ true) × (js ≡ ks)
entered {R} true true true true js ks h = (refl, cc)
entered {R} true true true false js ks h = absurd (cc)
entered {R} true true false d js ks h = absurd (cc)
entered {R} true false c d js ks h = absurd (cc)
entered {R} false b c d js ks h = absurd (cc)

same_lines : {R : Type 0} (x y : ℕ) (js ks : Lines R) → ◌≡◌ {A = Result (ℕ × Lines R) Fault} (Ok (x, js)) (Ok (y, ks)) → js ≡ ks
same_lines {R} x y js ks h = let e : ◌≡◌ {A = ℕ × Lines R} (x, js) (y, ks) = cc in ap (λ (p : ℕ × Lines _). p.1) e

module _ {R X : Type 0} (m : Meaning R X) (f : Said → Option R) (n size : ℕ) where
  one_booked : (x y : ℕ) (o : Option R) (ls ks : Lines R) → booking m n size o x ls ≡ Ok (y, ks) → IsPermutation (some_of o ++ standing ls) (standing ks)
  one_booked x y None ls ks h = absurd (cc)
  one_booked x y (Some r) ls ks h =
      let p = then_ok (λ js. Ok (x, js)) (reading m n size x r ls) (y, ks) h in
      let q = entered (named x) (is_open x ls) (m.takes r) (ltb (length (standing ls)) n) (add x (r ∷ []) ls) p.0 p.1 in
      subst (λ t. IsPermutation (r ∷ standing ls) (standing t)) (q.1 ∙ same_lines x y p.0 ks p.2) (one_more x r ls q.0)

  one_entry : (x y : ℕ) (e : Said) (ls ks : Lines R) → carried m f n size x e ls ≡ Ok (y, ks) → IsPermutation (booked_by f e ++ standing ls) (standing ks)
  one_entry x y (Planned p) ls ks h = one_booked x y (f (Planned p)) ls ks h
  one_entry x y (Drum a) ls ks h =
      subst (IsPermutation (standing ls)) (called (named (natural a)) (is_open (natural a) ls) (ltb (length ls) size) (natural a) y ls ks h) (IsPermutation-refl (standing ls))
  one_entry x y (Reading r) ls ks h = one_booked x y (f (Reading r)) ls ks h
  one_entry x y (Pair a b) ls ks h = one_booked x y (f (Pair a b)) ls ks h
  one_entry x y (Mark c) ls ks h = one_booked x y (f (Mark c)) ls ks h

-- a course that was not refused went on
onward_ok : {R A : Type 0} (ls ks : Lines R) (f : A → Course R) (r : Result A Fault) → onward ls f r ≡ (ks, Ok tt) → (a : A) × (r ≡ Ok a) × (f a ≡ (ks, Ok tt))
onward_ok ls ks f (Ok a) h = (a, refl, h)
onward_ok ls ks f (Err e) h =
    let g = ap (λ (x : Course _). x.1) h in
    absurd (cc)

-- the entries of a course that was not refused are those of the sheet, and their readings stand
pub record Made {R : Type 0} (f : Said → Option R) (s : List ℕ) (j i : ℕ) (t : Stage) (ls ks : Lines R) : Type 0 where
  pub xs : List Item
  pub read : items_from s j i t ≡ Ok xs
  pub stand : IsPermutation (readings_in f (says xs) ++ standing ls) (standing ks)

made_more : {R : Type 0} (f : Said → Option R) (s : List ℕ) (j i : ℕ) (t u : Stage) (x : Item) (ls js ks : Lines R) → step_at s i t ≡ Ok (x, u) → IsPermutation (booked_by f x.says ++ standing ls) (standing js) → Made f s j (i + 1) u js ks → Made f s (suc j) i t ls ks
unfolding items_from
made_more f s j i t u x ls js ks h d m =
    let rs = readings_in f (says m.xs) in
    let o = booked_by f x.says in
    let moved = IsPermutation-trans ((o ++ rs) ++ standing ls) (rs ++ (o ++ standing ls)) (rs ++ standing js) (change o rs (standing ls)) (IsPermutation-append_right rs (o ++ standing ls) (standing js) d) in
    record {
      xs = x ∷ m.xs;
      read = rw (h, m.read);
      stand = IsPermutation-trans ((o ++ rs) ++ standing ls) (rs ++ standing js) (standing ks) moved m.stand;
    }

module _ {R X : Type 0} (m : Meaning R X) (f : Said → Option R) (n size : ℕ) where
  pub made : (s : List ℕ) (j i : ℕ) (t : Stage) (x : ℕ) (ls ks : Lines R) → course_from m f n size s j i t x ls ≡ (ks, Ok tt) → Made f s j i t ls ks
  unfolding course_from items_from
  made s zero i t x ls ks h = record { xs = []; read = refl; stand = subst (λ z. IsPermutation (standing ls) (standing z)) (ap (λ (c : Course _). c.0) h) (IsPermutation-refl (standing ls)) }
  made s (suc j) i t x ls ks h =
      let p = onward_ok ls ks (λ p. onward ls (λ y. course_from m f n size s j (i + 1) p.1 y.0 y.1) (located (i + 1) (carried m f n size x p.0.says ls))) (step_at s i t) h in
      let e = p.0 in
      let q = onward_ok ls ks (λ y. course_from m f n size s j (i + 1) e.1 y.0 y.1) (located (i + 1) (carried m f n size x e.0.says ls)) p.2 in
      let y = q.0 in
      made_more f s j i t e.1 e.0 ls y.1 ks p.1 (one_entry m f n size x y.0 e.0.says ls y.1 (located_ok (i + 1) (carried m f n size x e.0.says ls) y q.1)) (made s j (i + 1) e.1 y.0 y.1 ks q.2)
