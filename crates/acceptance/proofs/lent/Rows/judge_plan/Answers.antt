use Rattle.std.proofs.Common.{refl, w32, to_z, of_z, rules, ◌≡◌}
use Rattle.acceptance.proofs.lent.Rows.judge_plan.Goals as goal

pub returns-in-Window-clause-told : goal.returns-in-Window-clause-told
returns-in-Window-clause-told c =
    let u = c.in-Window in
    let n : to_z w32 (of_z w32 u.n) ≡ u.n = search rules in
    let l : to_z w32 (of_z w32 u.lower) ≡ u.lower = search rules in
    let h : to_z w32 (of_z w32 u.upper) ≡ u.upper = search rules in
    let k : to_z w32 (of_z w32 u.k) ≡ u.k = search rules in
    let p = rw (l, h, k) at c.window.ensures in
    rw u.is (rw (n, p) at c.judge_lot-in-Window.ensures.told)

pub returns-in-Window-clause-pages : goal.returns-in-Window-clause-pages
returns-in-Window-clause-pages c =
    let u = c.in-Window in
    let n : to_z w32 (of_z w32 u.n) ≡ u.n = search rules in
    let l : to_z w32 (of_z w32 u.lower) ≡ u.lower = search rules in
    let h : to_z w32 (of_z w32 u.upper) ≡ u.upper = search rules in
    let k : to_z w32 (of_z w32 u.k) ≡ u.k = search rules in
    let p = rw (l, h, k) at c.window.ensures in
    rw u.is (rw (n, p) at c.judge_lot-in-Window.ensures.pages, refl, refl)
