use Rattle.std.proofs.Common.{◌≡◌, Ok, rules}
use Rattle.acceptance.specs.Carrying.{Left, lent, lot, outcome_of}
use Rattle.acceptance.proofs.Judging.{judged_by_sheet}
use Rattle.acceptance.proofs.lent.Rows.carry.Goals as goal

pub returns-clause-judged : goal.returns-clause-judged
returns-clause-judged c =
    let s = c.args.sheet.now in
    let d = lent c.args.self.now in
    let e = lent c.judge_plan.new.self in
    let r = Ok (lot c.in_ok-plan.plan c.in_ok-verdict.verdict) in
    let told : r ≡ outcome_of s d = search rules in
    let left : Left s d e = search rules in
    judged_by_sheet s d e r told left
