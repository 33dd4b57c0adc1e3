-- A past, one call at a time.
use Rattle.std.proofs.Common.{◌≡◌, ℕ, ◌<◌, ◌≤◌, Bool, true, false, List, [], ◌∷◌, ◌++◌, length, Ok, Err, Result, sym, refl, ap, subst, arith}
use Rattle.std.proofs.ByRecursion.{All-push}
use Rattle.std.proofs.lemmas.Bool.Decides.{nat_tests}
use Rattle.std.specs.List.{AllByRecursion}
use Rattle.fault.specs.declared.Fault.{Fault}
use Rattle.method.specs.Meaning.{Meaning, Taken}
use Rattle.bench.specs.Calls.{after}
use Rattle.bench.specs.Ledger.{Holds, Line, add, is_open, remove, line, readings_of, standing}
use Rattle.bench.proofs.Edits.{all_remove, readings_add, standing_add, standing_push, standing_remove, taken_add, taken_of}
use Rattle.rows.specs.declared.page.Page.{Page}
use Rattle.past.specs.Pasts.{call, ends, run}
use Rattle.past.specs.declared.calls.Call.{Call}
use Rattle.past.specs.declared.calls.Call.TheVariants.{Open, Read, Strike, Pour, Close}

-- a call that is refused or granted, and leaves the bench open
pub went_on : {B R X : Type 0} (b : B) (m : Meaning R X) (st : X → Bool) (n size : ℕ) (ls : List (Line R)) (c d : Call R) (ps qs : List (Page X)) → c ≡ d → ps ≡ qs → ends m n size d ls ≡ false → Holds m st n (after (call m n size d ls) ls) qs → (b ≡ b) × (ends m n size c ls ≡ false) × Holds m st n (after (call m n size c ls) ls) ps
went_on b m st n size ls c d ps qs e p f h = subst (λ t. (b ≡ b) × (ends m n size t ls ≡ false) × Holds m st n (after (call m n size t ls) ls) ps) (sym e) (refl, f, subst (Holds m st n (after (call m n size d ls) ls)) (sym p) h)

-- what holds of the lines, and of those after a call that is granted, holds after any call
kept : {R : Type 0} (P : List (Line R) → Type 0) (r : Result (List (Line R)) Fault) (ls : List (Line R)) → P ls → ((ks : List (Line R)) → r ≡ Ok ks → P ks) → P (after r ls)
kept P (Ok ks) ls h f = f ks refl
kept P (Err e) ls h f = h

module _ {R X : Type 0} (m : Meaning R X) (n size : ℕ) where
  AllTaken : List (Line R) → Type 0
  AllTaken ls = AllByRecursion (λ l. Taken m l.readings) ls

  granted : (c : Call R) (ls ks : List (Line R)) → AllByRecursion (λ l. Taken m l.readings) ls → call m n size c ls ≡ Ok ks → AllTaken ks
  unfolding AllTaken
  granted (Open x) ls ks h e = let is : ks ≡ ls ++ line x [] ∷ [] = grind (arith, nat_tests, e) in subst AllTaken (sym is) (All-push (λ l. Taken m l.readings) ls (line x []) h tt)
  granted (Read x r) ls ks h e =
      let is : ks ≡ add x (r ∷ []) ls = grind (arith, nat_tests, e) in
      let t : m.takes r ≡ true = grind (arith, nat_tests, e) in
      subst AllTaken (sym is) (taken_add m x (r ∷ []) ls (t, tt) h)
  granted (Strike x) ls ks h e = let is : ks ≡ remove x ls = grind (arith, nat_tests, e) in subst AllTaken (sym is) (all_remove (λ l. Taken m l.readings) x ls h)
  granted (Pour s g) ls ks h e =
      let is : ks ≡ remove s (add g (readings_of s ls) ls) = grind (arith, nat_tests, e) in
      subst AllTaken (sym is) (all_remove (λ l. Taken m l.readings) s (add g (readings_of s ls) ls) (taken_add m g (readings_of s ls) ls (taken_of m s ls h) h))
  granted Close ls ks h e = let is : ks ≡ ls = grind (arith, nat_tests, e) in subst AllTaken (sym is) h

  call_taken : (c : Call R) (ls : List (Line R)) → AllByRecursion (λ l. Taken m l.readings) ls → AllByRecursion (λ l. Taken m l.readings) (after (call m n size c ls) ls)
  unfolding AllTaken
  call_taken c ls h = kept AllTaken (call m n size c ls) ls h (λ ks e. granted c ls ks h e)

  pub run_taken : (cs : List (Call R)) (ls : List (Line R)) → AllByRecursion (λ l. Taken m l.readings) ls → AllByRecursion (λ l. Taken m l.readings) (run m n size cs ls)
  run_taken [] ls h = h
  run_taken (c ∷ cs) ls h = grind (arith, nat_tests, run_taken cs (after (call m n size c ls) ls) (call_taken c ls h))

  Few : List (Line R) → Type 0
  Few ls = length (standing ls) ≤ n

  granted_few : (c : Call R) (ls ks : List (Line R)) → length (standing ls) ≤ n → call m n size c ls ≡ Ok ks → Few ks
  unfolding Few
  granted_few (Open x) ls ks h e =
      let is : ks ≡ ls ++ line x [] ∷ [] = grind (arith, nat_tests, e) in
      let f = ap length (standing_push x ls) in
      subst Few (sym is) (omega arith)
  granted_few (Read x r) ls ks h e =
      let is : ks ≡ add x (r ∷ []) ls = grind (arith, nat_tests, e) in
      let there : is_open x ls ≡ true = grind (arith, nat_tests, e) in
      let room : length (standing ls) < n = grind (arith, nat_tests, e) in
      let f = standing_add x (r ∷ []) ls there in
      subst Few (sym is) (omega arith)
  granted_few (Strike x) ls ks h e =
      let is : ks ≡ remove x ls = grind (arith, nat_tests, e) in
      let f = standing_remove x ls in
      subst Few (sym is) (omega arith)
  granted_few (Pour s g) ls ks h e =
      let is : ks ≡ remove s (add g (readings_of s ls) ls) = grind (arith, nat_tests, e) in
      let there : is_open g ls ≡ true = grind (arith, nat_tests, e) in
      let two : s ≡ g → ⊥ = λ o. grind (arith, nat_tests, e, o) in
      let a = standing_remove s (add g (readings_of s ls) ls) in
      let b = standing_add g (readings_of s ls) ls there in
      let d = ap length (readings_add s g (readings_of s ls) ls two) in
      subst Few (sym is) (omega arith)
  granted_few Close ls ks h e = let is : ks ≡ ls = grind (arith, nat_tests, e) in subst Few (sym is) h

  call_few : (c : Call R) (ls : List (Line R)) → length (standing ls) ≤ n → length (standing (after (call m n size c ls) ls)) ≤ n
  unfolding Few
  call_few c ls h = kept Few (call m n size c ls) ls h (λ ks e. granted_few c ls ks h e)

  -- no more readings stand after a run than n, where no more did before it
  pub run_few : (cs : List (Call R)) (ls : List (Line R)) → length (standing ls) ≤ n → length (standing (run m n size cs ls)) ≤ n
  run_few [] ls h = h
  run_few (c ∷ cs) ls h = grind (arith, nat_tests, run_few cs (after (call m n size c ls) ls) (call_few c ls h))
