-- How a method shows that it tells which numbers some tally gives.
use Rattle.std.proofs.Common.{◌≡◌, ℕ, Bool, true, false, refl, arith}
use Rattle.method.specs.Meaning.{Decides}

differ : false ≡ true → ⊥
differ e = let z : ◌≡◌ {A = ℕ} 0 1 = cc in omega arith

pub decides : {P : Type 0} (b : Bool) → (b ≡ true → P) → (P → b ≡ true) → Decides b P
decides true f g = f refl
decides false f g = λ p. differ (g p)

yes_from : {P : Type 0} (b : Bool) → Decides b P → P → b ≡ true
yes_from true d p = refl
yes_from false d p = absurd (d p)

no_from : {P : Type 0} (b : Bool) → Decides b P → (P → ⊥) → b ≡ false
no_from true d n = absurd (n d)
no_from false d n = refl

-- numbers that a tally gives, and numbers that none does
module _ {T X : Type 0} (of : T → X) (st : X → Bool) (decided : (x : X) → Decides (st x) ((t : T) × (of t ≡ x))) where
  pub a_tally : (x : X) (t : T) → of t ≡ x → st x ≡ true
  a_tally x t e = yes_from (st x) (decided x) (t, e)

  pub no_tally : (x : X) → ((t : T) → of t ≡ x → ⊥) → st x ≡ false
  no_tally x n = no_from (st x) (decided x) (λ p. n p.0 p.1)
