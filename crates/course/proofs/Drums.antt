-- A drum that is named: opening a name that is open does no harm.
use Rattle.std.proofs.Common.{◌≡◌, ℕ, Bool, true, false, cond, List, Ok, Err, Result, refl}
use Rattle.fault.specs.Located.{then}
use Rattle.fault.specs.declared.Fault.{Fault}
use Rattle.fault.specs.declared.Fault.TheVariants.{NameOpen, NameRange, RowFull}
use Rattle.bench.specs.Calls.{after, told}
use Rattle.bench.specs.Ledger.{Holds, Line}
use Rattle.rows.specs.declared.page.Page.{Page}
use Rattle.method.specs.Meaning.{Meaning}
use Rattle.course.specs.Course.{Carried}

abbrev Lines : Type 0 → Type 0
Lines R = List (Line R)

module _ {R : Type 0} where
  -- opening by its three tests, and a drum by the same
  abbrev pub opens : Bool → Bool → Bool → Lines R → Result (Lines R) Fault
  opens a b c ks = cond a (cond b (Err (NameOpen 0)) (cond c (Ok ks) (Err (RowFull 0)))) (Err (NameRange 0))

  abbrev pub calls : Bool → Bool → Bool → ℕ → Lines R → Lines R → Result (ℕ × Lines R) Fault
  calls a b c x ls ks = cond a (cond b (Ok (x, ls)) (cond c (Ok (x, ks)) (Err (RowFull 0)))) (Err (NameRange 0))

  pub denied : (a b c : Bool) (x : ℕ) (ls ks : Lines R) (f : Fault) → Err f ≡ told (opens a b c ks) → ((i : ℕ) → f ≡ NameOpen i → ⊥) → (calls a b c x ls ks ≡ Err f) × (after (opens a b c ks) ls ≡ ls)
  denied true true c x ls ks f h t = absurd (t 0 (cc))
  denied true false true x ls ks f h t = absurd (cc)
  denied true false false x ls ks f h t = (cc, refl)
  denied false b c x ls ks f h t = (cc, refl)

-- a reading that is entered, or refused
pub reads_on : {R X : Type 0} (m : Meaning R X) (st : X → Bool) (n : ℕ) (q : Result (Lines R) Fault) (x : ℕ) (ls : Lines R) (ps : List (Page X)) (r : Result (Unit {0}) Fault) → r ≡ told q → Holds m st n (after q ls) ps → Carried m st n ls x ps r (then {Y = ℕ × Lines R} (λ ks. Ok (x, ks)) q)
reads_on m st n (Ok ks) x ls ps r e h = rw e (ks, refl, h)
reads_on m st n (Err f) x ls ps r e h = rw e (refl, h)
