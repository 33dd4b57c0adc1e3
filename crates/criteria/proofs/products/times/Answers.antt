use Rattle.std.proofs.Common.{◌≡◌, ◌*◌, ◌≤◌, ℤ, ◌*ℤ◌, unsigned_abs, sym, ap, ◌∙◌, subst, arith, w64, FitsSigned, to_z, of_z}
use Rattle.std.proofs.lemmas.Int.{to_z-of_z}
use Rattle.integers.specs.Size.{product_within}
use Rattle.integers.specs.Words.{fits}
use Rattle.criteria.proofs.products.times.Given as given
use Rattle.criteria.proofs.products.times.Goals as goal

same : (a b : ℤ) → FitsSigned w64 a → FitsSigned w64 b → to_z w64 (of_z w64 a) *ℤ to_z w64 (of_z w64 b) ≡ a *ℤ b
same a b f g = simp to_z-of_z

module _ (g : given.Over) (c : goal.Start g) where
  abbrev ab : ℤ
  ab = c.args.a *ℤ c.args.b

  small : unsigned_abs ab ≤ g.row.M * g.row.K
  small = product_within c.args.a c.args.b g.row.M g.row.K c.requires.first c.requires.second

  whole : FitsSigned w64 ab
  whole = fits ab (omega (arith, small, c.requires.room))

  is_ab : to_z w64 (of_z w64 c.args.a) *ℤ to_z w64 (of_z w64 c.args.b) ≡ ab
  is_ab = same c.args.a c.args.b c.ranges.a c.ranges.b

  back : to_z w64 (of_z w64 (to_z w64 (of_z w64 c.args.a) *ℤ to_z w64 (of_z w64 c.args.b))) ≡ ab
  back = ap (λ z. to_z w64 (of_z w64 z)) is_ab ∙ to_z-of_z w64 ab whole

pub overflow_mul-result : goal.overflow_mul-result
overflow_mul-result g c = subst (FitsSigned w64) (sym (is_ab g c)) (whole g c)

pub returns-clause-value : goal.returns-clause-value
returns-clause-value g c = back g c

pub returns-clause-size : goal.returns-clause-size
returns-clause-size g c = subst (λ z. unsigned_abs z ≤ g.row.M * g.row.K) (sym (back g c)) (small g c)
