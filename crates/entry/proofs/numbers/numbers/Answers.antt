use Rattle.std.proofs.Common.{◌≡◌, ◌+◌, ◌-◌, ◌^◌, ◌<◌, length, take, drop, set, ℤ, nat_abs, Ok, sym, refl, ap, ◌∙◌, arith, length-set, w32, to_z, of_z}
use borrow.Author.Differences.{ints}
use Rattle.std.proofs.lemmas.Result.{err_from_is_err_and}
use Rattle.std.proofs.lemmas.List.{drop-drop, length-drop, take_all}
use Rattle.entry.specs.Numbers.{is_comma, number_of}
use Rattle.std.specs.List.{position_or_len}
use Rattle.entry.proofs.Commas.{stops, ends_early, goes, last_stops, ends}
use Rattle.entry.proofs.numbers.numbers.Goals as goal

whole : (x : ℤ) → nat_abs x < 10 ^ 7 → to_z w32 (of_z w32 x) ≡ x
whole x h = omega (arith, ints)

pub split_at-requires : goal.split_at-requires
split_at-requires g c = c.comma_at.ensures.within

pub returns-in_err-found : goal.returns-in_err-found
returns-in_err-found g c =
    let p = err_from_is_err_and c.from_residual.result c.from_residual.ensures.1 in
    let bs = c.loop-i.rest.now in
    let f : c.split_at.result.0.now ≡ take (position_or_len is_comma bs) bs = c.split_at.ensures.front ∙ ap (λ k. take k bs) c.comma_at.ensures.value in
    let h = ap number_of (sym f) ∙ sym c.in_err-found.ensures.value in
    rw (p.1, p.2) (sym (c.loop-i.invariant.0 ∙ stops g.row.N c.loop-i.i bs c.loop-i.found c.loop-i-test.true _ h))

pub returns-in_default : goal.returns-in_default
returns-in_default g c =
    let bs = c.loop-i.rest.now in
    let f : c.split_at.result.0.now ≡ take (position_or_len is_comma bs) bs = c.split_at.ensures.front ∙ ap (λ k. take k bs) c.comma_at.ensures.value in
    let h = ap number_of (sym f) ∙ sym c.in_ok-found.ensures.value in
    sym (c.loop-i.invariant.0 ∙ ends_early g.row.N c.loop-i.i bs c.loop-i.found c.loop-i-test.true _ h (omega (arith, c.in_default.len_below, c.split_at.ensures.back_len, c.comma_at.ensures.value)))

pub loop-i-preserved : goal.loop-i-preserved
loop-i-preserved g c =
    let bs = c.loop-i.rest.now in
    let x = c.in_ok-found.field-0 in
    let n = position_or_len is_comma bs in
    let back = c.split_at.result.1.now in
    let f : c.split_at.result.0.now ≡ take n bs = c.split_at.ensures.front ∙ ap (λ k. take k bs) c.comma_at.ensures.value in
    let h = ap number_of (sym f) ∙ sym c.in_ok-found.ensures.value in
    let k = goes g.row.N c.loop-i.i bs c.loop-i.found c.loop-i-test.true x c.loop-i.invariant.1 h in
    let w : to_z w32 (of_z w32 x) ≡ x = whole x (c.in_ok-found.ensures.printed.reads x refl).1 in
    let b : back ≡ drop n bs = c.split_at.ensures.back ∙ ap (λ k. drop k bs) c.comma_at.ensures.value in
    let m : take (length back - 1) (drop 1 back) ≡ drop (n + 1) bs = take_all (length back - 1) (drop 1 back) (omega (arith, length-drop 1 back)) ∙ ap (drop 1) b ∙ drop-drop 1 n bs in
    rw (w, m) (c.loop-i.invariant.0 ∙ k, length-set c.loop-i.found c.loop-i.i x ∙ c.loop-i.invariant.1)

pub returns-in_err-found-2 : goal.returns-in_err-found-2
returns-in_err-found-2 g c =
    let p = err_from_is_err_and c.from_residual-in_err-found-2.result c.from_residual-in_err-found-2.ensures.1 in
    rw (p.1, p.2) (sym (c.loop-i.invariant.0 ∙ last_stops g.row.N c.loop-i.i c.loop-i.rest.now c.loop-i.found (omega (arith, c.requires)) _ (sym c.in_err-found-2.ensures.value)))

pub returns : goal.returns
returns g c =
    let i = c.loop-i.i in
    let l : i + 1 ≡ g.row.N = omega (arith, c.requires) in
    let e : i ≡ g.row.N - 1 = omega (arith, c.requires) in
    let k = ends g.row.N i c.loop-i.rest.now c.loop-i.found l _ c.loop-i.invariant.1 (sym c.in_ok-found-2.ensures.value) in
    let x = c.in_ok-found-2.field-0 in
    let w : to_z w32 (of_z w32 x) ≡ x = whole x (c.in_ok-found-2.ensures.printed.reads x refl).1 in
    rw w (sym (c.loop-i.invariant.0 ∙ k ∙ ap (λ j. Ok (set c.loop-i.found j x)) e))
