use Rattle.std.proofs.Common.{ℤ, ap, w32}
use Rattle.std.proofs.lemmas.Int.{to_z-of_z}
use Rattle.criteria.specs.Known.{constants, known}
use Rattle.plans.proofs.Made.{as_made, granted}
use Rattle.plans.proofs.known.Goals as goal

pub returns : goal.returns
returns c =
    let a = c.args in
    let m = c.in_ok-criterion.criterion in
    let e = rw (to_z-of_z w32 a.limit c.ranges.limit, to_z-of_z w32 a.sigma c.ranges.sigma, to_z-of_z w32 a.k c.ranges.k) at c.in_ok-criterion.ensures in
    let d = granted (constants a.limit a.sigma a.k) (a.limit, a.sigma, a.k) (m.limit, m.sigma, m.k) e in
    as_made (constants a.limit a.sigma a.k) (known a.limit a.sigma a.k) (known m.limit m.sigma m.k) d.0 (ap (λ (t : ℤ × ℤ × ℤ). known t.0 t.1 t.2) d.1)
