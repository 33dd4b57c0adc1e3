use Rattle.bench.proofs.Follows.{pour_follows}
use Rattle.bench.proofs.Bench.pour.Goals as goal

pub returns-clause-ledger : goal.returns-clause-ledger
returns-clause-ledger g c = let b = c.args.self.now in pour_follows (g.M.Method.meaning b.method) g.M.Method.stands (g.M.Method.laws b.method) b.n b.high c.args.pages.now _ _ c.args.source c.args.goal c.pour_page.ensures
