use Rattle.std.proofs.Common.{◌≡◌, sym, subst, rules}
use Rattle.criteria.specs.Mean.{judged, Tells}
use Rattle.criteria.proofs.Judged.{mean_tells}
use Rattle.criteria.proofs.mean.Mean.judge.Goals as goal

pub returns-clause-exact : goal.returns-clause-exact
returns-clause-exact c =
    let m = c.args.self in
    let x = c.args.t.sums in
    let e : c.at_most.result ≡ judged m.n m.mean x = search rules in
    subst (λ v. Tells v m.n m.mean x) (sym e) (mean_tells m.n m.mean x)
