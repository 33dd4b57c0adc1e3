use Rattle.std.proofs.Common.{arith}
use Rattle.std.proofs.lemmas.Grind.{common_steps}
use Rattle.entry.proofs.Spelt.{spelled_from}
use Rattle.entry.proofs.forms.said.Goals as goal

pub returns-in_err-plan-in-len1-up-clause-spelled : goal.returns-in_err-plan-in-len1-up-clause-spelled
returns-in_err-plan-in-len1-up-clause-spelled c = spelled_from c.args.text.now _ (grind (arith, common_steps))

pub returns-in_ok-first-in-80-clause-spelled : goal.returns-in_ok-first-in-80-clause-spelled
returns-in_ok-first-in-80-clause-spelled c = spelled_from c.args.text.now _ (grind (arith, common_steps))

pub returns-in_ok-plan-in-len1-up-clause-spelled : goal.returns-in_ok-plan-in-len1-up-clause-spelled
returns-in_ok-plan-in-len1-up-clause-spelled c = spelled_from c.args.text.now _ (grind (arith, common_steps))
