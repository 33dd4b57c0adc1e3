-- The laws of the numbers of marks, as every method keeps them.
use Rattle.std.specs.Prelude.{◌≡◌, ℕ, Bool, List, [], ◌∷◌, ◌++◌, length, refl}
use Rattle.std.proofs.Common.{sym, ap, ◌∙◌, arith}
use Rattle.attributes.specs.declared.counts.Counts.{Counts}
use Rattle.attributes.specs.Counts.{none, alone, together, marked, kept}
use Rattle.attributes.specs.Marks.{allowed, judged, marks}
use Rattle.inspection.specs.Tallied.{inspected}
use Rattle.method.specs.declared.verdict.Verdict.{Verdict}
use Rattle.method.specs.Meaning.{Laws}

same_counts : (x y : Counts) → x.n ≡ y.n → x.z ≡ y.z → x ≡ y
same_counts x y e f =
    ap (λ (n : ℕ). record { n = n; z = x.z }) e
    ∙ ap (λ (z : ℕ). record { n = y.n; z = z }) f

pub assoc : (x y z : Counts) → together (together x y) z ≡ together x (together y z)
assoc x y z = same_counts _ _ (omega arith) (omega arith)

pub comm : (x y : Counts) → together x y ≡ together y x
comm x y = same_counts _ _ (omega arith) (omega arith)

pub neutral : (x : Counts) → together none x ≡ x
neutral x = same_counts _ _ (omega arith) (omega arith)

pub appended : (xs ys : List Bool) → marked (xs ++ ys) ≡ together (marked xs) (marked ys)
appended [] ys = sym (neutral (marked ys))
appended (x ∷ xs) ys = ap (together (alone x)) (appended xs ys) ∙ sym (assoc (alone x) (marked xs) (marked ys))

pub counted : (xs : List Bool) → (marked xs).n ≡ length xs
counted [] = refl
counted (x ∷ xs) = omega (arith, counted xs)

-- whatever a method on marks decides by
pub counts_laws : (a : ℕ → Bool) (j : Counts → Verdict) → Laws (inspected kept a j)
counts_laws a j = record {
  appended = λ xs ys _ _. appended xs ys;
  assoc = assoc;
  comm = comm;
  neutral = neutral;
  counted = λ xs _. counted xs;
  shared = λ x y. omega arith;
}

pub marks_laws : (most : ℕ) → Laws (marks most)
marks_laws most = counts_laws (allowed most) (judged most)
