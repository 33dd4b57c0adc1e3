-- Answers that are passed on, and lists that grow with each.
use Rattle.std.proofs.Common.{◌≡◌, ℕ, Bool, true, false, cond, List, [], ◌∷◌, ◌++◌, Ok, Err, Result, sym, refl, ap, append_assoc}
use Rattle.fault.specs.Located.{located, then}
use Rattle.fault.specs.declared.Fault.{Fault}
use Rattle.fault.specs.Faults.{met}

-- a value came through both answers
pub then_ok : {X Y : Type 0} (g : X → Result Y Fault) (r : Result X Fault) (y : Y) → then g r ≡ Ok y → (x : X) × (r ≡ Ok x) × (g x ≡ Ok y)
then_ok g (Ok x) y h = (x, refl, h)
then_ok g (Err f) y h = absurd (cc)

pub located_ok : {X : Type 0} (i : ℕ) (r : Result X Fault) (x : X) → located i r ≡ Ok x → r ≡ Ok x
located_ok i (Ok y) x h = h
located_ok i (Err f) x h = absurd (cc)

-- a refusal that was met at an entry
pub met_at : {X : Type 0} (i : ℕ) (r : Result X Fault) (f : Fault) → ◌≡◌ {A = Result X Fault} (Err f) (located i r) → (g : Fault) × (r ≡ Err g) × (f ≡ met i g)
met_at i (Ok x) f h = absurd (cc)
met_at i (Err g) f h = (g, refl, cc)

-- what was answered where a refusal was tested for first
pub not_refused : {X : Type 0} (b : Bool) (f : Fault) (x y : X) → ◌≡◌ {A = Result X Fault} (cond b (Err f) (Ok x)) (Ok y) → (b ≡ false) × (y ≡ x)
not_refused true f x y h = absurd (cc)
not_refused false f x y h = (refl, cc)

-- what is found so far, and what is still to come
abbrev pub with : {X : Type 0} → List X → Result (List X) Fault → Result (List X) Fault
with found r = then (λ xs. Ok (found ++ xs)) r

pub with_none : {X : Type 0} (r : Result (List X) Fault) → r ≡ with [] r
with_none (Ok xs) = refl
with_none (Err f) = refl

pub with_more : {X : Type 0} (found : List X) (x : X) (r : Result (List X) Fault) → with found (then (λ xs. Ok (x ∷ xs)) r) ≡ with (found ++ x ∷ []) r
with_more found x (Ok xs) = ap Ok (sym (append_assoc found (x ∷ []) xs))
with_more found x (Err f) = refl
