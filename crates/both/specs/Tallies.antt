-- Two decisions on numbers, as one.
use Rattle.std.specs.Prelude.{◌≡◌, Bool, true, false, ◌&&◌}
use Rattle.std.proofs.Common.{ap, ◌∙◌}
use Rattle.method.specs.Meaning.{Decides}

module _ {T U X Y : Type 0} (of : T → X) (of' : U → Y) where
  pair_same : (x : X × Y) (a : X) (b : Y) → a ≡ x.0 → b ≡ x.1 → ◌≡◌ {A = X × Y} (a, b) x
  pair_same x a b e f = ap (λ (y : X). (y, b)) e ∙ ap (λ (y : Y). (x.0, y)) f

  pub both_decided : (x : X × Y) (p q : Bool) → Decides p ((t : T) × (of t ≡ x.0)) → Decides q ((u : U) × (of' u ≡ x.1)) → Decides (p && q) ((t : T × U) × ((of t.0, of' t.1) ≡ x))
  both_decided x true true d e = ((d.0, e.0), pair_same x (of d.0) (of' e.0) d.1 e.1)
  both_decided x true false d e = λ p. e (p.0.1, ap (λ y. y.1) p.1)
  both_decided x false true d e = λ p. d (p.0.0, ap (λ y. y.0) p.1)
  both_decided x false false d e = λ p. d (p.0.0, ap (λ y. y.0) p.1)
