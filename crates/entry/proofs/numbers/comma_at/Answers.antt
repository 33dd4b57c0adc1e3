use Rattle.std.proofs.Common.{◌≡◌, ◌≤◌, length, arith, rules, tests}
use Rattle.std.proofs.lemmas.Bool.Decides.{nat_tests}
use Rattle.std.proofs.lemmas.Iterator.{YieldsList-from_slice}
use Rattle.std.proofs.lemmas.Iterator.Search.{position_from_yields_List}
use Rattle.std.proofs.lemmas.List.Sums.{prefix_len-le-length}
use Rattle.std.specs.List.{position, position_or_len}
use Rattle.entry.specs.Numbers.{is_comma}
use Rattle.entry.proofs.numbers.comma_at.Goals as goal

pub returns : goal.returns
returns c =
    let bs = c.args.text.now in
    let e : c.position.result ≡ position is_comma bs = position_from_yields_List is_comma _ _ c.position.result c.position.ensures.ran (YieldsList-from_slice bs c.iter.ensures.rest) (λ y b q k. search (rules, tests)) in
    let l : position_or_len is_comma bs ≤ length bs = prefix_len-le-length _ bs in
    record { value = grind (arith, nat_tests, e, l, c.unwrap_or.ensures); within = grind (arith, nat_tests, e, l, c.unwrap_or.ensures) }
