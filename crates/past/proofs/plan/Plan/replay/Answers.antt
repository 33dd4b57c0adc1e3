use Rattle.std.proofs.Common.{length}
use Rattle.past.proofs.Promised.{promised}
use Rattle.past.proofs.plan.Plan.replay.Goals as goal

pub returns-clause-promise : goal.returns-clause-promise
returns-clause-promise g c = let p = c.args.self.now in promised (g.M.Method.meaning p.method) p.n (g.M.Method.laws p.method) (length c.args.pages.now) c.args.calls.now c.replay_calls.result c.replay_calls.ensures.told
