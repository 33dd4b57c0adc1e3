-- Each criterion's verdict is yes exactly when the readings meet what is asked.
use Rattle.std.proofs.Common.{ℕ, ℤ, pos}
use Rattle.method.specs.Verdicts.{compared}
use Rattle.method.proofs.Exactly.{compared_exactly, guarded_exactly}
use Rattle.variables.specs.declared.sums.Sums.{Sums}
use Rattle.criteria.specs.Criteria.{above}
use Rattle.criteria.specs.Known as k
use Rattle.criteria.specs.Unknown as u
use Rattle.criteria.specs.Mean as m

pub known_tells : (limit sigma factor : ℤ) (x : Sums) → k.Tells (k.judged limit sigma factor x) limit sigma factor x
known_tells limit sigma factor x = compared_exactly (k.scatter sigma factor x) (k.margin limit x)

pub unknown_tells : (limit factor : ℤ) (x : Sums) → u.Tells (u.judged limit factor x) limit factor x
unknown_tells limit factor x =
    let e = compared_exactly (u.scatter factor x) (u.margin limit x) in
    guarded_exactly (pos 0) (above limit x) (compared (u.scatter factor x) (u.margin limit x)) e

pub mean_tells : (n : ℕ) (c : ℤ) (x : Sums) → m.Tells (m.judged n c x) n c x
mean_tells n c x = compared_exactly (m.departure c x) (m.scatter n x)
