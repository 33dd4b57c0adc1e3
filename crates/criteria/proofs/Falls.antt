-- Student's fractiles fall from one degree of freedom to the next: one test over the whole list.
use Rattle.std.proofs.Common.{◌≡◌, ℕ, zero, suc, Bool, true, ◌&&◌, ltb, List, [], ◌∷◌, refl, add-one, arith}
use Rattle.std.proofs.lemmas.Bool.{and_parts, ltb-true}
use Rattle.criteria.specs.Student.{students, Falling}

-- each number of the list is less than the one before it, as a test
abbrev falls : List ℕ → Bool
falls [] = true
falls (x ∷ []) = true
falls (x ∷ y ∷ ys) = ltb y x && falls (y ∷ ys)

falling : (xs : List ℕ) → falls xs ≡ true → Falling xs
falling [] e i h = absurd (omega arith)
falling (x ∷ []) e i h = absurd (omega arith)
falling (x ∷ y ∷ ys) e zero h = ltb-true y x (and_parts (ltb y x) (falls (y ∷ ys)) e).0
falling (x ∷ y ∷ ys) e (suc i) h =
    let rest = falling (y ∷ ys) (and_parts (ltb y x) (falls (y ∷ ys)) e).1 i (omega arith) in
    simp add-one (simp add-one at rest)

pub students_fall : Falling students
students_fall = falling students refl
