use Rattle.std.proofs.Common.{◌≡◌, true, ℤ, neg_ℤ, ◌≤ℤ◌, sym, ap, ◌∙◌, w32, rules}
use Rattle.std.proofs.lemmas.Int.{to_z-of_z}
use Rattle.std.proofs.lemmas.Bool.{both_ways}
use Rattle.both.specs.Both.{both}
use Rattle.criteria.specs.Unknown.{constants, unknown}
use Rattle.criteria.specs.declared.unknown.Unknown.{Unknown}
use Rattle.inspection.specs.declared.Inspection.{Inspection}
use Rattle.method.proofs.Exactly.{le_to}
use Rattle.method.specs.Meaning.{Meaning}
use Rattle.through.specs.Passings.{reversed}
use Rattle.variables.specs.Sums.{reading}
use Rattle.variables.specs.declared.sums.Sums.{Sums}
use Rattle.plans.specs.Piles.{window, window_constants}
use Rattle.plans.proofs.Limits.{small, turned_back, upper_ok, window_from}
use Rattle.plans.proofs.Made.{as_made, granted, refused}
use Rattle.plans.proofs.window.Goals as goal

pub returns-in_err-unknown : goal.returns-in_err-unknown
returns-in_err-unknown c =
    let a = c.args in
    let u = a.upper in
    let f = c.in_err-unknown.field-0.0 in
    let r : reading u ≡ true = sym (rw (to_z-of_z w32 u c.ranges.upper) at c.if-not-is_reading.ensures) in
    let d = granted (constants a.lower a.k) (unknown a.lower a.k) _ (rw (to_z-of_z w32 a.lower c.ranges.lower, to_z-of_z w32 a.k c.ranges.k) at c.in_ok-first.ensures) in
    let e = refused (constants (neg_ℤ u) a.k) (unknown (neg_ℤ u) a.k) f (rw (turned_back u (small u r), to_z-of_z w32 a.k c.ranges.k) at c.in_err-unknown.ensures) in
    absurd (both_ways (constants (neg_ℤ u) a.k) e.0 (upper_ok a.lower u a.k r d.0))

pub returns : goal.returns
returns c =
    let a = c.args in
    let l = a.lower in
    let u = a.upper in
    let k = a.k in
    let s = c.over-second in
    let r : reading u ≡ true = sym (rw (to_z-of_z w32 u c.ranges.upper) at c.if-not-is_reading.ensures) in
    let d = granted (constants l k) (unknown l k) _ (rw (to_z-of_z w32 l c.ranges.lower, to_z-of_z w32 k c.ranges.k) at c.in_ok-first.ensures) in
    let e = granted (constants (neg_ℤ u) k) (unknown (neg_ℤ u) k) _ (rw (turned_back u (small u r), to_z-of_z w32 k c.ranges.k) at c.in_ok-unknown.ensures) in
    let o : l ≤ℤ u = search rules in
    as_made (window_constants l u k) (window l u k) _ (window_from l u k r (le_to l u o) d.0)
    (ap (λ (m : Meaning ℤ Sums). both m (reversed (unknown s.result.below.criterion.limit s.result.below.criterion.k))) d.1
    ∙ ap (λ (x : Inspection Unknown). both (unknown l k) (reversed (unknown x.criterion.limit x.criterion.k))) s.ensures.1
    ∙ ap (λ (m : Meaning ℤ Sums). both (unknown l k) (reversed m)) e.1)
