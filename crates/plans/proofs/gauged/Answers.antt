use Rattle.std.proofs.Common.{ℤ, unsigned_abs, ap, ◌∙◌, w32}
use Rattle.std.proofs.lemmas.Result.{err_from_is_err_and}
use Rattle.std.proofs.lemmas.Int.{to_z-of_z}
use Rattle.std.proofs.lemmas.Bool.{and_from}
use Rattle.attributes.specs.Marks.{marks, constants as marks_constant}
use Rattle.attributes.specs.declared.counts.Counts.{Counts}
use Rattle.attributes.specs.declared.marks.Marks.{Marks}
use Rattle.inspection.specs.declared.Inspection.{Inspection}
use Rattle.method.specs.Meaning.{Meaning}
use Rattle.std.specs.Prelude.{Bool}
use Rattle.through.specs.Passings.{gauged, constants as gauge_limits}
use Rattle.through.specs.declared.gauge.Gauge.{Gauge}
use Rattle.plans.specs.Piles.{gauged_constants}
use Rattle.plans.proofs.Made.{as_made, as_refused, granted, refused, second_false}
use Rattle.plans.proofs.gauged.Goals as goal

pub returns-in_err-below : goal.returns-in_err-below
returns-in_err-below c =
    let p = err_from_is_err_and c.from_residual-in_err-below.result c.from_residual-in_err-below.ensures.1 in
    let a = c.args in
    let f = c.in_err-below.field-0.0 in
    let e = rw (to_z-of_z w32 a.most c.ranges.most) at c.in_err-below.ensures in
    let d = refused (marks_constant a.most) (marks (unsigned_abs a.most)) f e in
    rw (p.1, p.2) (as_refused (gauged_constants a.low a.high a.most) (gauged a.low a.high (marks (unsigned_abs a.most))) f (second_false (gauge_limits a.low a.high) (marks_constant a.most) d.0) d.1)

pub returns : goal.returns
returns c =
    let a = c.args in
    let g = c.in_ok-gauge.gauge in
    let r = c.over.result in
    let w = c.over.ensures in
    let d = granted (gauge_limits a.low a.high) (a.low, a.high) (g.low, g.high) (rw (to_z-of_z w32 a.low c.ranges.low, to_z-of_z w32 a.high c.ranges.high) at c.in_ok-gauge.ensures) in
    let e = granted (marks_constant a.most) (marks (unsigned_abs a.most)) _ (rw (to_z-of_z w32 a.most c.ranges.most) at c.in_ok-below.ensures) in
    as_made (gauged_constants a.low a.high a.most) (gauged a.low a.high (marks (unsigned_abs a.most))) (gauged r.passing.low r.passing.high (marks r.below.criterion.most))
    (and_from (gauge_limits a.low a.high) (marks_constant a.most) d.0 e.0)
    (ap (λ (x : Gauge). gauged x.low x.high (marks r.below.criterion.most)) w.0
    ∙ ap (λ (x : Inspection Marks). gauged g.low g.high (marks x.criterion.most)) w.1
    ∙ ap (λ (m : Meaning Bool Counts). gauged g.low g.high m) e.1
    ∙ ap (λ (t : ℤ × ℤ). gauged t.0 t.1 (marks (unsigned_abs a.most))) d.1)
