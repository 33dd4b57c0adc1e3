use Rattle.std.proofs.Common.{◌≡◌, sym, subst, rules}
use Rattle.criteria.specs.Known.{judged, Tells}
use Rattle.criteria.proofs.Judged.{known_tells}
use Rattle.criteria.proofs.known.Known.judge.Goals as goal

pub returns-clause-exact : goal.returns-clause-exact
returns-clause-exact c =
    let m = c.args.self in
    let x = c.args.t.sums in
    let e : c.at_most.result ≡ judged m.limit m.sigma m.k x = search rules in
    subst (λ v. Tells v m.limit m.sigma m.k x) (sym e) (known_tells m.limit m.sigma m.k x)
