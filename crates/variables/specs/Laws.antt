-- The laws of the numbers of readings, as every method keeps them.
use Rattle.std.specs.Prelude.{◌≡◌, ℕ, Bool, List, [], ◌∷◌, ◌++◌, length, ℤ, refl}
use Rattle.std.proofs.Common.{sym, ap, ◌∙◌, arith}
use Rattle.std.proofs.Math.IntN.{+ℤ_assoc, +ℤ_comm, +ℤ_idl}
use Rattle.variables.specs.declared.sums.Sums.{Sums}
use Rattle.variables.specs.Sums.{none, alone, together, summed}
use Rattle.variables.specs.Methods.{variables}
use Rattle.method.specs.declared.verdict.Verdict.{Verdict}
use Rattle.method.specs.Meaning.{Laws}

same_sums : (x y : Sums) → x.n ≡ y.n → x.s ≡ y.s → x.q ≡ y.q → x ≡ y
same_sums x y e f g =
    ap (λ (n : ℕ). record { n = n; s = x.s; q = x.q }) e
    ∙ ap (λ (s : ℤ). record { n = y.n; s = s; q = x.q }) f
    ∙ ap (λ (q : ℕ). record { n = y.n; s = y.s; q = q }) g

pub assoc : (x y z : Sums) → together (together x y) z ≡ together x (together y z)
assoc x y z = same_sums _ _ (omega arith) (+ℤ_assoc x.s y.s z.s) (omega arith)

pub comm : (x y : Sums) → together x y ≡ together y x
comm x y = same_sums _ _ (omega arith) (+ℤ_comm x.s y.s) (omega arith)

pub neutral : (x : Sums) → together none x ≡ x
neutral x = same_sums _ _ (omega arith) (+ℤ_idl x.s) (omega arith)

pub appended : (xs ys : List ℤ) → summed (xs ++ ys) ≡ together (summed xs) (summed ys)
appended [] ys = sym (neutral (summed ys))
appended (x ∷ xs) ys = ap (together (alone x)) (appended xs ys) ∙ sym (assoc (alone x) (summed xs) (summed ys))

pub counted : (xs : List ℤ) → (summed xs).n ≡ length xs
counted [] = refl
counted (x ∷ xs) = omega (arith, counted xs)

-- whatever a method on readings decides by
pub variables_laws : (a : ℕ → Bool) (j : Sums → Verdict) → Laws (variables a j)
variables_laws a j = record {
  appended = λ xs ys _ _. appended xs ys;
  assoc = assoc;
  comm = comm;
  neutral = neutral;
  counted = λ xs _. counted xs;
  shared = λ x y. omega arith;
}
