use Rattle.bench.proofs.Follows.{strike_follows}
use Rattle.bench.proofs.Bench.strike.Goals as goal

pub returns-clause-ledger : goal.returns-clause-ledger
returns-clause-ledger g c = let b = c.args.self.now in strike_follows (g.M.Method.meaning b.method) g.M.Method.stands (g.M.Method.laws b.method) b.n b.high c.args.pages.now _ _ c.args.name c.strike_page.ensures
