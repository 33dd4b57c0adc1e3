use Rattle.std.proofs.Common.{◌≡◌, ℕ, ◌+◌, ◌*◌, ◌^◌, ◌<◌, ◌≤◌, pow-suc, add-one, pos, arith, w32, to_z}
use borrow.Author.Differences.{ints}
use native.Mathlib.Nat.{pow-le-pow_right}
use Rattle.std.proofs.lemmas.List.{at_drop_all}
use Rattle.std.proofs.lemmas.Bool.Decides.{nat_tests}
use Rattle.entry.specs.Numbers.{digits_after}
use Rattle.entry.proofs.numbers.digits.Goals as goal

grows : (n d i : ℕ) → n < 10 ^ i → d < 10 → n * 10 + d < 10 ^ (i + 1)
grows n d i h k = let e : 10 ^ (i + 1) ≡ 10 ^ i * 10 = rw add-one (pow-suc 10 i) in omega arith

under : (n i j : ℕ) → n < 10 ^ i → i ≤ j → n < 10 ^ j
under n i j h k = let p : 10 ^ i ≤ 10 ^ j = pow-le-pow_right (omega arith) k in omega arith

pub overflow_mul-n : goal.overflow_mul-n
overflow_mul-n c = omega (arith, under c.loop-c.n c.loop-c.c-index 8 c.loop-c.invariant.1 (omega arith))

pub overflow_add-n : goal.overflow_add-n
overflow_add-n c = omega (arith, under c.loop-c.n c.loop-c.c-index 8 c.loop-c.invariant.1 (omega arith))

pub returns : goal.returns
returns c =
    let e = at_drop_all (digits_after c.loop-c.n) c.args.text.now c.loop-c.c-index (omega arith) in
    let i = c.loop-c.invariant.0 in
    let n = c.loop-c.n in
    let s : n < 10 ^ 7 = under n c.loop-c.c-index 7 c.loop-c.invariant.1 (omega arith) in
    let z : to_z w32 n ≡ pos n = omega (arith, ints) in
    record { value = rw z (grind (arith, nat_tests)); short = rw z s }
