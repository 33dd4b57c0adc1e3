use Rattle.std.proofs.Common.{arith}
use Rattle.std.proofs.lemmas.Grind.{common_steps}
use Rattle.entry.proofs.Spelling.{printed_from}
use Rattle.entry.proofs.numbers.number.Goals as goal

pub returns-in_ok-digits-in-45-clause-printed : goal.returns-in_ok-digits-in-45-clause-printed
returns-in_ok-digits-in-45-clause-printed c = printed_from c.args.text.now _ (grind (arith, common_steps))

pub returns-in_default-clause-printed : goal.returns-in_default-clause-printed
returns-in_default-clause-printed c = printed_from c.args.text.now _ (grind (arith, common_steps))
