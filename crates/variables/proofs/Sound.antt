-- Joining and entering keep a tally's numbers sound.
use Rattle.std.proofs.Common.{◌+◌, ◌*◌, ◌≤◌, pos, ◌+ℤ◌, ◌-ℤ◌, nat_abs, ◌≤ℤ◌, arith}
use borrow.Author.Differences.{ints}
use Rattle.integers.specs.Size.{square_size, size_sum, squares_join}
use Rattle.variables.specs.declared.sums.Sums.{Sums}
use Rattle.variables.specs.Sums.{Sound, together, spread}

pub spread_in : (x : Sums) → nat_abs x.s * nat_abs x.s ≤ x.n * x.q → pos 0 ≤ℤ spread x
spread_in x h = rw (square_size x.s) (omega (arith, ints))

pub spread_out : (x : Sums) → pos 0 ≤ℤ spread x → nat_abs x.s * nat_abs x.s ≤ x.n * x.q
spread_out x h = let k : pos 0 ≤ℤ (pos (x.n * x.q) -ℤ pos (nat_abs x.s * nat_abs x.s)) = rw (square_size x.s) at h in omega (arith, ints)

pub sound_together : (x y : Sums) → Sound x → Sound y → x.n + y.n ≤ 50 → Sound (together x y)
sound_together x y f g h =
    let size = size_sum x.s y.s in
    let few : nat_abs (x.s +ℤ y.s) ≤ 2000 * (x.n + y.n) = omega (arith, f, g) in
    (h, few, omega (arith, f, g), spread_in (together x y) (squares_join x.n x.q (nat_abs x.s) y.n y.q (nat_abs y.s) (nat_abs (x.s +ℤ y.s)) (spread_out x f.3) (spread_out y g.3) size))
