use Rattle.std.proofs.Common.{◌≡◌, ℕ, suc, ◌+◌, cond, eqb, ltb, List, length, Some, None, sym, refl, ap, ◌∙◌, arith, rules, tests}
use Rattle.std.specs.List.{position, position_or_len}
use Rattle.std.proofs.lemmas.Iterator.{YieldsList-from_slice}
use Rattle.std.proofs.lemmas.Iterator.Search.{position_from_yields_List}
use Rattle.std.proofs.lemmas.List.Recursion.{is_position_or_len}
use Rattle.rows.specs.declared.page.Page.{Page}
use Rattle.rows.specs.Pages.{place}
use Rattle.rows.proofs.finding.place.Goals as goal

-- a place is what std calls a position
placed : {X : Type 0} (x : ℕ) (ps : List (Page X)) → position_or_len (λ p. eqb p.name x) ps ≡ place x ps
placed x ps = sym (is_position_or_len (place x) (λ p. eqb p.name x) refl (λ p qs. let e : suc (place x qs) ≡ 1 + place x qs = omega arith in ap (cond (eqb p.name x) 0) e) ps)

pub returns : goal.returns
returns g c =
    let x = c.args.name in
    let ps = c.args.pages.now in
    let e : c.position.result ≡ position (λ p. eqb p.name x) ps = position_from_yields_List (λ p. eqb p.name x) _ _ c.position.result c.position.ensures.ran (YieldsList-from_slice ps c.iter.ensures.rest) (λ y b q k. search (rules, tests)) in
    let f = e ∙ ap (λ k. cond (ltb k (length ps)) (Some k) None) (placed x ps) in
    search (rules, tests)
