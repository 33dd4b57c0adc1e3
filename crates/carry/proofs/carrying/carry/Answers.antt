use Rattle.std.proofs.Common.{◌≡◌, ℤ, Ok, Err, Result, sym, ap, ◌∙◌, subst, inr, w32, to_z, of_z, rules}
use Rattle.std.proofs.lemmas.Result.{err_from_is_err_and}
use Rattle.fault.specs.declared.Fault.{Fault}
use Rattle.fault.specs.Located.{then}
use Rattle.sheet.specs.Reading.{Progress, progress}
use Rattle.sheet.specs.Sheets.{Answered}
use Rattle.carry.specs.Carrying.{Came, Lot, came, lot_of, lot_under, outcome_of}
use Rattle.carry.specs.declared.report.Outcome.TheVariants.{Judged}
use Rattle.carry.proofs.Judging.{answer_judged}
use Rattle.carry.specs.Carrying.Came.{judged_lot}
use Rattle.carry.proofs.Outcomes.{answered_ok, begins_unknown, passed_on}
use Rattle.carry.proofs.carrying.carry.Goals as goal

-- the lot under numbers as they were passed is the lot under the numbers themselves
as_passed : (r : Result Lot Fault) (n l k n' l' k' : ℤ) (q : Progress) → n' ≡ n → l' ≡ l → k' ≡ k → Answered r (lot_under n' l' k' q) → Answered r (lot_under n l k q)
as_passed r n l k n' l' k' q e f g a =
    subst (λ x. Answered r (lot_under x l k q)) e (subst (λ x. Answered r (lot_under n' x k q)) f (subst (λ x. Answered r (lot_under n' l' x q)) g a))

pub returns-in_err-report-in-Unknown-clause-told : goal.returns-in_err-report-in-Unknown-clause-told
returns-in_err-report-in-Unknown-clause-told c =
    let p = err_from_is_err_and c.from_residual-in_err-report-in-Unknown.result c.from_residual-in_err-report-in-Unknown.ensures.1 in
    let q = progress c.first_plan.new.reader in
    let u = c.in-Unknown in
    let e = begins_unknown c.args.sheet.now (progress c.in_ok-reader.reader) q c.in_ok-plan.plan u.n u.limit u.k c.in_ok-reader.ensures c.in_ok-plan.ensures u.is in
    let f = c.in_err-report-in-Unknown.field-0.0 in
    let n : to_z w32 (of_z w32 u.n) ≡ u.n = search rules in
    let l : to_z w32 (of_z w32 u.limit) ≡ u.limit = search rules in
    let k : to_z w32 (of_z w32 u.k) ≡ u.k = search rules in
    rw (p.1, p.2)
    (subst (λ x. Answered {X = Came} (Err f) x) (sym e) (passed_on (lot_under u.n u.limit u.k q) (λ x. Ok (judged_lot x)) f (as_passed (Err f) _ _ _ _ _ _ q n l k c.in_err-report-in-Unknown.ensures)))

pub returns-in_ok-report-in-Unknown : goal.returns-in_ok-report-in-Unknown
returns-in_ok-report-in-Unknown c =
    let s = c.args.sheet.now in
    let q = progress c.first_plan.new.reader in
    let u = c.in-Unknown in
    let e = begins_unknown c.args.sheet.now (progress c.in_ok-reader.reader) q c.in_ok-plan.plan u.n u.limit u.k c.in_ok-reader.ensures c.in_ok-plan.ensures u.is in
    let n : to_z w32 (of_z w32 u.n) ≡ u.n = search rules in
    let l : to_z w32 (of_z w32 u.limit) ≡ u.limit = search rules in
    let k : to_z w32 (of_z w32 u.k) ≡ u.k = search rules in
    let g = answered_ok (lot_under u.n u.limit u.k q) (lot_of c.in_ok-report-in-Unknown.report) (as_passed (Ok (lot_of c.in_ok-report-in-Unknown.report)) _ _ _ _ _ _ q n l k c.in_ok-report-in-Unknown.ensures) in
    let r = came (Ok (Judged c.in_ok-report-in-Unknown.report)) in
    let told : Answered r (outcome_of s) = inr (sym (e ∙ ap (then (λ x. Ok (judged_lot x))) g)) in
    record { told = told; judged = answer_judged s r told }

pub returns-in_default-clause-judged : goal.returns-in_default-clause-judged
returns-in_default-clause-judged c =
    let s = c.args.sheet.now in
    let r = came c.leave.result in
    let told : Answered r (outcome_of s) = search rules in
    answer_judged s r told
