use Rattle.std.proofs.Common.{ltb, [], ◌∷◌, ◌++◌, length, refl, subst, rules}
use Rattle.bench.specs.Calls.{named}
use Rattle.bench.specs.Ledger.{Holds, is_open, line}
use Rattle.course.proofs.Drums.{denied}
use Rattle.course.proofs.entries.Work.call_drum.Goals as goal

pub returns-in_default : goal.returns-in_default
returns-in_default g c =
    let b = c.args.self.now.bench.now in
    let ps = c.args.self.now.pages.now in
    let x = c.args.name in (
      refl,
      refl,
      c.open.auto.pages,
      λ ls h.
          let k = c.in-Err.ensures.ledger ls h in
          let d = denied (named x) (is_open x ls) (ltb (length ls) (length ps)) x ls (ls ++ line x [] ∷ []) c.in-Err.fault k.0 (λ i e. search rules) in
          (d.0, subst (λ t. Holds (g.M.Method.meaning b.method) g.M.Method.stands b.n t c.open.new.pages) d.1 k.1),
    )
