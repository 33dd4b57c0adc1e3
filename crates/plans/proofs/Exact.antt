-- The verdict under a plan with two limits is yes exactly when both limits are met.
use Rattle.std.proofs.Common.{List, map, ℤ, neg_ℤ, sym, ◌∙◌}
use Rattle.std.proofs.lemmas.Bool.{and_from, and_parts}
use Rattle.method.specs.Verdicts.{Exactly, yes, yes_lower}
use Rattle.variables.specs.Sums.{summed}
use Rattle.criteria.proofs.Judged.{unknown_tells}
use Rattle.criteria.specs.Unknown.{judged}
use Rattle.through.specs.Passings.{negated}
use Rattle.plans.specs.Meets.{WindowMeets}
use Rattle.plans.specs.Piles.{window}

pub window_tells : (l u k : ℤ) (xs : List ℤ) → Exactly ((window l u k).verdict ((window l u k).total xs)) (WindowMeets l u k xs)
window_tells l u k xs =
    let a = judged l k (summed xs) in
    let b = judged (neg_ℤ u) k (summed (map negated xs)) in
    let p = unknown_tells l k (summed xs) in
    let q = unknown_tells (neg_ℤ u) k (summed (map negated xs)) in
    let e = yes_lower a b in (
      λ h. let d = and_parts (yes a) (yes b) (sym e ∙ h) in (p.0 d.0, q.0 d.1),
      λ m. e ∙ and_from (yes a) (yes b) (p.1 m.0) (q.1 m.1),
    )
