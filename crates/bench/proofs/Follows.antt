-- Each call on pages that show lines answers as the ledger does, and leaves pages that show the ledger's next lines.
use Rattle.std.proofs.Common.{◌≡◌, ℕ, zero, suc, ◌+◌, ◌-◌, ◌<◌, ◌≤◌, Bool, true, false, cond, ◌&&◌, eqb, ltb, leb, List, [], ◌∷◌, ◌++◌, length, set, Ok, Err, Result, sym, refl, ap, ◌∙◌, subst, arith}
use Rattle.std.specs.List.{AllByRecursion}
use Rattle.std.proofs.lemmas.List.{length-set, append-nil}
use Rattle.std.proofs.ByRecursion.{All-push, All-append}
use Rattle.std.proofs.lemmas.Grind.{common_steps}
use Rattle.std.proofs.lemmas.Bool.Decides.{nat_tests}
use Rattle.std.proofs.lemmas.Bool.{eqb-false, ltb-true, and_parts}
use Rattle.fault.specs.Located.{then}
use Rattle.fault.specs.declared.Fault.{Fault}
use Rattle.fault.specs.declared.Fault.TheVariants.{PlanFull, ReadingNotTaken, ReadingsMissing}
use Rattle.method.specs.Meaning.{Meaning, Laws, Taken}
use Rattle.method.specs.Answers.{entered}
use Rattle.rows.specs.declared.page.Page.{Page}
use Rattle.rows.specs.Pages as rows
use Rattle.rows.specs.Checks.{checked}
use Rattle.rows.specs.Joining.{sum_of}
use Rattle.rows.specs.Pages.{page}
use Rattle.bench.specs.Calls.{admitted, after, at, blank_page, closed, judged, named, opened, poured, read, struck, struck_at, told}
use Rattle.bench.specs.Ledger.{CarriedOut, Follows, Line, judging, line, is_open, standing, readings_of, add, remove, row, Shows, Sound, Holds, opening, reading, striking, pouring}
use Rattle.bench.proofs.Shows.{named_not_0, length_row, found, place_blank, checked_row}
use Rattle.bench.proofs.Edits.{apart_push, standing_push, open_add, apart_add, names_add, standing_add, readings_add, apart_remove, all_remove, standing_remove, length_remove, length_add, taken_add, taken_of, numbers_of, place_add, shown_add, shown_remove, shown_push}

-- first one answer, then the other
abbrev and_then : {A B : Type 0} → Result A Fault → (A → Result B Fault) → Result B Fault
and_then r f = then f r

module _ {R X : Type 0} (m : Meaning R X) (st : X → Bool) (laws : Laws m) (n : ℕ) (top : n ≤ 50) where
  -- a ledger's answer and the pages' answer
  abbrev Agrees : Result (List (Line R)) Fault → Result (List (Page X)) Fault → Type 0
  Agrees (Ok ls) (Ok ps) = Shows m n ls ps
  Agrees (Ok ls) (Err f) = ⊥
  Agrees (Err e) (Ok ps) = ⊥
  Agrees (Err e) (Err f) = f ≡ e

  agrees_told : (a : Result (List (Line R)) Fault) (b : Result (List (Page X)) Fault) → Agrees a b → told b ≡ told a
  agrees_told (Ok ls) (Ok ps) h = refl
  agrees_told (Ok ls) (Err f) h = absurd h
  agrees_told (Err e) (Ok ps) h = absurd h
  agrees_told (Err e) (Err f) h = ap Err h

  agrees_after : (a : Result (List (Line R)) Fault) (b : Result (List (Page X)) Fault) (ls : List (Line R)) (ps : List (Page X)) → Shows m n ls ps → Agrees a b → Shows m n (after a ls) (after b ps)
  agrees_after (Ok ls') (Ok ps') ls ps h g = g
  agrees_after (Ok ls') (Err f) ls ps h g = absurd g
  agrees_after (Err e) (Ok ps') ls ps h g = absurd g
  agrees_after (Err e) (Err f) ls ps h g = h

  -- one test on both sides
  both : (b : Bool) (A C : Result (List (Line R)) Fault) (B D : Result (List (Page X)) Fault) → (b ≡ true → Agrees A B) → (b ≡ false → Agrees C D) → Agrees (cond b A C) (cond b B D)
  both true A C B D f g = f refl
  both false A C B D f g = g refl

  -- a test on both sides that comes to the same
  same : (b t : Bool) (A C : Result (List (Line R)) Fault) (B D : Result (List (Page X)) Fault) → t ≡ b → (b ≡ true → Agrees A B) → (b ≡ false → Agrees C D) → Agrees (cond b A C) (cond t B D)
  same b t A C B D e f g = subst (λ u. Agrees (cond b A C) (cond u B D)) (sym e) (both b A C B D f g)

  module _ (ls : List (Line R)) (ps : List (Page X)) (h : Shows m n ls ps) (o : Sound st ps) where
    -- past the check
    past : (A : Result (List (Line R)) Fault) (F : ℕ → Result (List (Page X)) Fault) → Agrees A (F (n - length (standing ls))) → Agrees A (and_then (checked m st n ps) F)
    past A F g = subst (λ u. Agrees A (and_then u F)) (sym (checked_row m st laws n ls ps top h o)) g

    size : length ps ≡ length ls + h.blanks
    size = grind (arith, h.shown, length_row m ls h.blanks)

    stands_at : (x : ℕ) → named x ≡ true → ltb (rows.place x ps) (length ps) ≡ is_open x ls
    stands_at x ok = grind (arith, h.shown, found m x ls h.blanks (named_not_0 x ok))

    first_blank : rows.place 0 ps ≡ length ls
    first_blank = grind (arith, h.shown, place_blank m ls h.blanks h.names)

    open_agrees : (x : ℕ) → Agrees (opening m n (length ps) x ls) (opened m st n x ps)
    open_agrees x = past (opening m n (length ps) x ls) _
        (both (named x) _ _ _ _
        (λ ok. same (is_open x ls) (ltb (rows.place x ps) (length ps)) _ _ _ _ (stands_at x ok) (λ _. refl)
        (λ new. same (ltb (length ls) (length ps)) (ltb (rows.place 0 ps) (length ps)) _ _ _ _ (ap (λ t. ltb t (length ps)) first_blank)
        (λ free. granted ok new (ltb-true (length ls) (length ps) free))
        (λ _. refl)))
        (λ _. refl))
      where
        granted : named x ≡ true → is_open x ls ≡ false → length ls < length ps → Shows m n (ls ++ line x [] ∷ []) (set ps (rows.place 0 ps) (page x (m.total [])))
        granted ok new free =
            let k = h.blanks in
            let e : k ≡ suc (k - 1) = let s = size in omega arith in
            let l = length-set ps (rows.place 0 ps) (page x (m.total [])) in
            record {
              blanks = k - 1;
              shown = ap (λ t. set t (rows.place 0 ps) (page x (m.total []))) h.shown ∙ ap (λ t. set (row m ls k) t (page x (m.total []))) first_blank ∙ ap (λ t. set (row m ls t) (length ls) (page x (m.total []))) e ∙ shown_push m x ls (k - 1);
              some = grind (arith, l, h.some);
              most = grind (arith, l, h.most);
              names = All-push (λ l. named l.name ≡ true) ls (line x []) h.names ok;
              apart = apart_push x ls new h.apart;
              taken = All-push (λ l. Taken m l.readings) ls (line x []) h.taken tt;
              few = grind (arith, standing_push x ls, h.few);
            }

    -- the page of an open name with more readings shows the line with them
    added : (x : ℕ) (rs : List R) → is_open x ls ≡ true → Taken m rs → set ps (rows.place x ps) (page x (m.join (at m ps (rows.place x ps)) (m.total rs))) ≡ row m (add x rs ls) h.blanks
    added x rs op t =
        ap (λ p. set p (rows.place x p) (page x (m.join (at m p (rows.place x p)) (m.total rs)))) h.shown
        ∙ ap (λ y. set (row m ls h.blanks) (rows.place x (row m ls h.blanks)) (page x (m.join y (m.total rs)))) (numbers_of m x ls h.blanks (blank_page m) op)
        ∙ shown_add m laws x rs ls h.blanks op t h.taken

    numbers_at : (x : ℕ) → is_open x ls ≡ true → at m ps (rows.place x ps) ≡ m.total (readings_of x ls)
    numbers_at x op = grind (arith, h.shown, numbers_of m x ls h.blanks (blank_page m) op)

    held_add : (x : ℕ) (rs : List R) → is_open x ls ≡ true → Taken m rs → length (standing ls) + length rs ≤ n → Shows m n (add x rs ls) (set ps (rows.place x ps) (page x (m.join (at m ps (rows.place x ps)) (m.total rs))))
    held_add x rs op t fit =
        let l = length-set ps (rows.place x ps) (page x (m.join (at m ps (rows.place x ps)) (m.total rs))) in
        record {
          blanks = h.blanks;
          shown = added x rs op t;
          some = grind (arith, l, h.some);
          most = grind (arith, l, h.most);
          names = names_add (λ y. named y ≡ true) x rs ls h.names;
          apart = apart_add x rs ls h.apart;
          taken = taken_add m x rs ls t h.taken;
          few = grind (arith, standing_add x rs ls op);
        }

    module _ (x : ℕ) (r : R) (op : is_open x ls ≡ true) where
      -- the page's numbers with the reading
      abbrev z : X
      z = m.join (at m ps (rows.place x ps)) (m.total (r ∷ []))

      abbrev written : Result (List (Page X)) Fault
      written = Ok (set ps (rows.place x ps) (page x z))

      abbrev tried : Result (List (Page X)) Fault
      tried = then (λ w. Ok (set ps (rows.place x ps) (page x w))) (entered m (at m ps (rows.place x ps)) r)

      counts : m.takes r ≡ true → m.count z ≤ length (standing ls) + 1
      counts t = grind (arith, common_steps, laws.shared (at m ps (rows.place x ps)) (m.total (r ∷ [])), laws.counted (r ∷ []) (t, tt), numbers_at x op, laws.counted (readings_of x ls) (taken_of m x ls h.taken), standing_remove x ls, h.few)

      free : m.takes r ≡ true → length (standing ls) < n → tried ≡ written
      free t l = grind (arith, nat_tests, counts t)

      abbrev Ledger : Bool → Result (List (Line R)) Fault
      Ledger b = cond b (Ok (add x (r ∷ []) ls)) (Err (PlanFull 0))

      abbrev Pages : Bool → Result (List (Page X)) Fault → Result (List (Page X)) Fault
      Pages b q = cond b (Err (PlanFull 0)) q

      tail : m.takes r ≡ true → Agrees (Ledger (ltb (length (standing ls)) n)) (Pages (eqb (n - length (standing ls)) 0) tried)
      tail t =
          let k = length (standing ls) in
          let turned : Pages (eqb (n - k) 0) tried ≡ cond (ltb k n) tried (Err (PlanFull 0)) = grind (arith, nat_tests) in
          subst (Agrees (Ledger (ltb k n))) (sym turned)
          (both (ltb k n) _ _ _ _ (λ lt. let l = ltb-true k n lt in subst (Agrees (Ledger true)) (sym (free t l)) (held_add x (r ∷ []) op (t, tt) (omega arith))) (λ _. refl))

      entry : Agrees (cond (m.takes r) (Ledger (ltb (length (standing ls)) n)) (Err (ReadingNotTaken 0))) (cond (m.takes r) (Pages (eqb (n - length (standing ls)) 0) tried) (Err (ReadingNotTaken 0)))
      entry = both (m.takes r) _ _ _ _ tail (λ _. refl)

    read_agrees : (x : ℕ) (r : R) → Agrees (reading m n (length ps) x r ls) (read m st n x r ps)
    read_agrees x r = past (reading m n (length ps) x r ls) _
        (both (named x) _ _ _ _
        (λ ok. same (is_open x ls) (ltb (rows.place x ps) (length ps)) _ _ _ _ (stands_at x ok) (λ op. entry x r op) (λ _. refl))
        (λ _. refl))

    held_remove : (x : ℕ) → is_open x ls ≡ true → Shows m n (remove x ls) (struck_at m (rows.place x ps) ps)
    held_remove x op =
        let e : struck_at m (rows.place x ps) ps ≡ row m (remove x ls) (h.blanks + 1) = ap (λ p. struck_at m (rows.place x p) p) h.shown ∙ shown_remove m x ls h.blanks op in
        let l : length (struck_at m (rows.place x ps) ps) ≡ length ps = grind (arith, e, length_row m (remove x ls) (h.blanks + 1), length_remove x ls op, size) in
        record {
          blanks = h.blanks + 1;
          shown = e;
          some = grind (arith, l, h.some);
          most = grind (arith, l, h.most);
          names = all_remove (λ y. named y.name ≡ true) x ls h.names;
          apart = apart_remove x ls h.apart;
          taken = all_remove (λ y. Taken m y.readings) x ls h.taken;
          few = grind (arith, standing_remove x ls, h.few);
        }

    strike_agrees : (x : ℕ) → Agrees (striking m n (length ps) x ls) (struck m st n x ps)
    strike_agrees x = past (striking m n (length ps) x ls) _
        (both (named x) _ _ _ _
        (λ ok. same (is_open x ls) (ltb (rows.place x ps) (length ps)) _ _ _ _ (stands_at x ok) (λ op. held_remove x op) (λ _. refl))
        (λ _. refl))

    held_pour : (s g : ℕ) → is_open s ls ≡ true → is_open g ls ≡ true → (s ≡ g → ⊥) → Shows m n (remove s (add g (readings_of s ls) ls)) (struck_at m (rows.place s ps) (set ps (rows.place g ps) (page g (m.join (at m ps (rows.place g ps)) (at m ps (rows.place s ps))))))
    held_pour s g os og ne =
        let rs = readings_of s ls in
        let k = h.blanks in
        let ls' = add g rs ls in
        let os' : is_open s ls' ≡ true = open_add s g rs ls ∙ os in
        let rows' = set ps (rows.place g ps) (page g (m.join (at m ps (rows.place g ps)) (at m ps (rows.place s ps)))) in
        let step : rows' ≡ row m ls' k = ap (λ w. set ps (rows.place g ps) (page g (m.join (at m ps (rows.place g ps)) w))) (numbers_at s os) ∙ added g rs og (taken_of m s ls h.taken) in
        let where-s : rows.place s ps ≡ rows.place s (row m ls' k) = ap (rows.place s) h.shown ∙ sym (place_add m s g rs ls k) in
        let e : struck_at m (rows.place s ps) rows' ≡ row m (remove s ls') (k + 1) = ap (struck_at m (rows.place s ps)) step ∙ ap (λ i. struck_at m i (row m ls' k)) where-s ∙ shown_remove m s ls' k os' in
        let l : length (struck_at m (rows.place s ps) rows') ≡ length ps = grind (arith, e, length_row m (remove s ls') (k + 1), length_remove s ls' os', length_add g rs ls, size) in
        record {
          blanks = k + 1;
          shown = e;
          some = grind (arith, l, h.some);
          most = grind (arith, l, h.most);
          names = all_remove (λ y. named y.name ≡ true) s ls' (names_add (λ y. named y ≡ true) g rs ls h.names);
          apart = apart_remove s ls' (apart_add g rs ls h.apart);
          taken = all_remove (λ y. Taken m y.readings) s ls' (taken_add m g rs ls (taken_of m s ls h.taken) h.taken);
          few = grind (arith, standing_remove s ls', standing_add g rs ls og, readings_add s g rs ls ne, h.few);
        }

    pour_count : (s g : ℕ) → is_open s ls ≡ true → is_open g ls ≡ true → m.count (m.join (at m ps (rows.place g ps)) (at m ps (rows.place s ps))) ≡ length (readings_of s ls) + length (readings_of g ls)
    pour_count s g os og =
        let rs = readings_of s ls in
        let rg = readings_of g ls in
        let ts = taken_of m s ls h.taken in
        let tg = taken_of m g ls h.taken in
        grind (arith, common_steps, numbers_at g og, numbers_at s os, laws.appended rg rs tg ts, laws.counted (rg ++ rs) (All-append (λ r. m.takes r ≡ true) rg rs tg ts))

    pour_agrees : (s g : ℕ) → Agrees (pouring m n (length ps) s g ls) (poured m st n s g ps)
    pour_agrees s g = past (pouring m n (length ps) s g ls) _
        (both (named s && named g) _ _ _ _
        (λ ok. let p = and_parts (named s) (named g) ok in
        same (is_open s ls && is_open g ls) (ltb (rows.place s ps) (length ps) && ltb (rows.place g ps) (length ps)) _ _ _ _ (ap (λ t. t && ltb (rows.place g ps) (length ps)) (stands_at s p.0) ∙ ap (λ t. is_open s ls && t) (stands_at g p.1))
        (λ op. let q = and_parts (is_open s ls) (is_open g ls) op in
        both (eqb s g) _ _ _ _ (λ _. refl)
        (λ ne. same (leb (length (readings_of s ls) + length (readings_of g ls)) n) (leb (m.count (m.join (at m ps (rows.place g ps)) (at m ps (rows.place s ps)))) n) _ _ _ _ (ap (λ t. leb t n) (pour_count s g q.0 q.1))
        (λ _. held_pour s g q.0 q.1 (eqb-false s g ne)) (λ _. refl)))
        (λ _. refl))
        (λ _. refl))

    -- the pages' tallies joined are the total of the readings that stand
    sum_row : (acc : List R) (qs : List (Line R)) (k : ℕ) → Taken m acc → AllByRecursion (λ l. Taken m l.readings) qs → length acc + length (standing qs) ≤ 50 → Sound st (row m qs k) → sum_of m st (m.total acc) (row m qs k) ≡ Ok (m.total (acc ++ standing qs))
    sum_row acc [] zero ta tq fit w = ap (λ t. Ok (m.total t)) (sym (append-nil acc))
    sum_row acc [] (suc k) ta tq fit w = grind (arith, nat_tests, laws.comm (m.total acc) (m.total []), laws.neutral (m.total acc), laws.counted acc ta, w.0, sum_row acc [] k ta tq fit w.1)
    sum_row acc (l ∷ qs) k ta tq fit w =
        let ta' = All-append (λ r. m.takes r ≡ true) acc l.readings ta tq.0 in
        let ih = sum_row (acc ++ l.readings) qs k ta' tq.1 in
        grind (arith, nat_tests, common_steps, laws.appended acc l.readings ta tq.0, laws.counted (acc ++ l.readings) ta', w.0, w.1, ih)

    -- closing is granted exactly when n readings stand, and the lot's total is theirs
    pub close_agrees : closed m st n ps ≡ cond (ltb (length (standing ls)) n) (Err ReadingsMissing) (Ok (m.total (standing ls)))
    close_agrees =
        let sum = sum_row [] ls h.blanks tt h.taken (let f = h.few in omega arith) (subst (Sound st) h.shown o) in
        grind (arith, nat_tests, checked_row m st laws n ls ps top h o, h.shown, sum)

  followed : (f : List (Line R) → Result (List (Line R)) Fault) (F : List (Page X) → Result (List (Page X)) Fault) (ps qs : List (Page X)) (r : Result (Unit {0}) Fault) → ((ls : List (Line R)) → Shows m n ls ps → Sound st ps → Agrees (f ls) (F ps)) → CarriedOut st F ps qs r → Follows m st n f ps qs r
  followed f F ps qs r agrees c ls h =
      let g = agrees ls h.shows h.sound in
      (c.answer ∙ agrees_told (f ls) (F ps) g, record { shows = subst (λ t. Shows m n (after (f ls) ls) t) (sym c.row) (agrees_after (f ls) (F ps) ls ps h.shows g); sound = c.sound h.sound })

  module _ (ps qs : List (Page X)) (r : Result (Unit {0}) Fault) where
    pub open_follows : (x : ℕ) → CarriedOut st (opened m st n x) ps qs r → Follows m st n (opening m n (length ps) x) ps qs r
    open_follows x = followed (opening m n (length ps) x) (opened m st n x) ps qs r (λ ls h o. open_agrees ls ps h o x)

    pub read_follows : (x : ℕ) (y : R) → CarriedOut st (read m st n x y) ps qs r → Follows m st n (reading m n (length ps) x y) ps qs r
    read_follows x y = followed (reading m n (length ps) x y) (read m st n x y) ps qs r (λ ls h o. read_agrees ls ps h o x y)

    pub strike_follows : (x : ℕ) → CarriedOut st (struck m st n x) ps qs r → Follows m st n (striking m n (length ps) x) ps qs r
    strike_follows x = followed (striking m n (length ps) x) (struck m st n x) ps qs r (λ ls h o. strike_agrees ls ps h o x)

    pub pour_follows : (s g : ℕ) → CarriedOut st (poured m st n s g) ps qs r → Follows m st n (pouring m n (length ps) s g) ps qs r
    pour_follows s g = followed (pouring m n (length ps) s g) (poured m st n s g) ps qs r (λ ls h o. pour_agrees ls ps h o s g)

  -- on pages that show lines the lot is judged as the ledger says
  pub judge_agrees : (ls : List (Line R)) (ps : List (Page X)) → Holds m st n ls ps → judged m st n ps ≡ judging m n ls
  judge_agrees ls ps h =
      ap (then (λ x. Ok (m.verdict x))) (close_agrees ls ps h.shows h.sound)
      ∙ elim (ltb (length (standing ls)) n) as (λ b. then (λ x. Ok (m.verdict x)) (cond b (Err ReadingsMissing) (Ok (m.total (standing ls)))) ≡ cond b (Err ReadingsMissing) (Ok (m.verdict (m.total (standing ls)))))
      [ true ↦ refl | false ↦ refl ]

-- closing changes no lines, granted or not
pub closing_keeps : {A : Type 0} (b : Bool) (ls : A) → after (cond b (Err ReadingsMissing) (Ok ls)) ls ≡ ls
closing_keeps true ls = refl
closing_keeps false ls = refl

-- a bench is set up on 1 to 64 pages alone
pub admitted_pages : {R X : Type 0} (m : Meaning R X) (n size : ℕ) → admitted m n size ≡ Ok tt → (1 ≤ size) × (size ≤ 64)
admitted_pages m n size h = (grind (arith, nat_tests, h), grind (arith, nat_tests, h))
