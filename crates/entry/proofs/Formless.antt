-- An entry's text is refused for its form only.
use Rattle.std.proofs.Common.{◌≡◌, ℕ, zero, suc, Bool, true, false, cond, eqb, List, [], ◌∷◌, length, get_or, ℤ, Some, None, Ok, Err, Option, Result, refl}
use Rattle.std.specs.List.{after_first, before_first, between}
use Rattle.std.specs.Option.{ok_or}
use Rattle.fault.specs.Located.{then}
use Rattle.fault.specs.declared.Fault.{Fault}
use Rattle.fault.specs.declared.Fault.TheVariants.{EntryForm}
use Rattle.entry.specs.Forms.{form_of, mark_of, plan_of, said_of}
use Rattle.entry.specs.Numbers.{is_comma, number_of, numbers_of, signed_of}

-- an answer that is a value, or that there is no form
abbrev Formed : {X : Type 0} → Result X Fault → Type 0
Formed (Ok x) = Unit {0}
Formed (Err f) = f ≡ EntryForm 0

at_err : {X : Type 0} (r : Result X Fault) (f : Fault) → Formed r → r ≡ Err f → f ≡ EntryForm 0
at_err (Ok x) f h e = cc
at_err (Err g) f h e = cc

formed_then : {X Y : Type 0} (g : X → Result Y Fault) (r : Result X Fault) → Formed r → ((x : X) → Formed (g x)) → Formed (then g r)
formed_then g (Ok x) h k = k x
formed_then g (Err f) h k = h

formed_cond : {X : Type 0} (b : Bool) (r s : Result X Fault) → Formed r → Formed s → Formed (cond b r s)
formed_cond true r s h k = h
formed_cond false r s h k = k

formed_option : {X : Type 0} (o : Option X) → Formed (ok_or o (EntryForm 0))
formed_option None = refl
formed_option (Some x) = tt

number_formed : (bs : List ℕ) → Formed (number_of bs)
number_formed bs = formed_option (signed_of bs)

numbers_formed : (k : ℕ) (bs : List ℕ) → Formed (numbers_of k bs)
unfolding numbers_of
numbers_formed zero bs = tt
numbers_formed (suc zero) bs = formed_then (λ x. Ok (x ∷ [])) (number_of bs) (number_formed bs) (λ x. tt)
numbers_formed (suc (suc k)) bs =
    formed_then (λ x. then (λ xs. Ok (x ∷ xs)) (numbers_of (suc k) (after_first is_comma bs))) (number_of (before_first is_comma bs)) (number_formed (before_first is_comma bs))
    (λ x. formed_then (λ xs. Ok (x ∷ xs)) (numbers_of (suc k) (after_first is_comma bs)) (numbers_formed (suc k) (after_first is_comma bs)) (λ xs. tt))

-- k numbers, made into something
made_of : {Y : Type 0} (g : List ℤ → Y) (k : ℕ) (t : List ℕ) → Formed (then (λ xs. Ok (g xs)) (numbers_of k t))
made_of g k t = formed_then (λ xs. Ok (g xs)) (numbers_of k t) (numbers_formed k t) (λ xs. tt)

plan_formed : (c : ℕ) (t : List ℕ) → Formed (plan_of c t)
plan_formed c t =
    formed_cond (eqb c 75) _ _ (made_of _ 4 t)
    (formed_cond (eqb c 85) _ _ (made_of _ 3 t)
    (formed_cond (eqb c 87) _ _ (made_of _ 4 t)
    (formed_cond (eqb c 65) _ _ (made_of _ 2 t)
    (formed_cond (eqb c 71) _ _ (made_of _ 4 t)
    (formed_cond (eqb c 84) _ _ (made_of _ 2 t)
    (formed_cond (eqb c 86) _ _ (made_of _ 1 t) refl))))))

mark_formed : (t : List ℕ) → Formed (mark_of t)
mark_formed t =
    formed_cond (eqb (length t) 1) _ _ (formed_cond (eqb (get_or t 0 0) 43) _ _ tt (formed_cond (eqb (get_or t 0 0) 45) _ _ tt refl)) refl

form_formed : (c : ℕ) (t : List ℕ) → Formed (form_of c t)
form_formed c t =
    formed_cond (eqb c 68) _ _ (made_of _ 1 t)
    (formed_cond (eqb c 82) _ _ (made_of _ 1 t)
    (formed_cond (eqb c 80) _ _ (made_of _ 2 t)
    (formed_cond (eqb c 77) _ _ (formed_then _ (mark_of t) (mark_formed t) (λ b. tt)) (formed_then _ (plan_of c t) (plan_formed c t) (λ p. tt)))))

pub only_form : (bs : List ℕ) (f : Fault) → said_of bs ≡ Err f → f ≡ EntryForm 0
only_form bs f = at_err (said_of bs) f (form_formed (get_or bs 0 0) (between 1 (length bs) bs))

pub number_form : (bs : List ℕ) (f : Fault) → number_of bs ≡ Err f → f ≡ EntryForm 0
number_form bs f = at_err (number_of bs) f (number_formed bs)
