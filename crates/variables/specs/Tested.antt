-- The test of a tally's numbers tells whether they are sound.
use Rattle.std.specs.Prelude.{◌≡◌, ◌*◌, true, pos, ◌≤ℤ◌, int_le, nat_le, unsigned_abs}
use Rattle.std.proofs.Common.{arith}
use Rattle.std.proofs.lemmas.Int.{ints}
use Rattle.std.proofs.lemmas.Bool.{and_parts, and_from, leb-true, le-leb}
use Rattle.variables.specs.declared.sums.Sums.{Sums}
use Rattle.variables.specs.Sums.{Sound, sound, spread}

pub sound_from : (x : Sums) → sound x ≡ true → Sound x
sound_from x h =
    let a = and_parts (nat_le x.n 50) _ h in
    let b = and_parts (nat_le (unsigned_abs x.s) (2000 * x.n)) _ a.1 in
    let d = and_parts (nat_le x.q (4000000 * x.n)) (int_le (pos 0) (spread x)) b.1 in
    let e : int_le (pos 0) (spread x) ≡ true = d.1 in
    (leb-true x.n 50 a.0, leb-true (unsigned_abs x.s) (2000 * x.n) b.0, leb-true x.q (4000000 * x.n) d.0, omega (arith, ints))

pub sound_to : (x : Sums) → Sound x → sound x ≡ true
sound_to x h =
    let k : pos 0 ≤ℤ spread x = h.3 in
    let e : int_le (pos 0) (spread x) ≡ true = grind (arith, ints) in
    and_from (nat_le x.n 50) _ (le-leb x.n 50 h.0) (and_from (nat_le (unsigned_abs x.s) (2000 * x.n)) _ (le-leb (unsigned_abs x.s) (2000 * x.n) h.1) (and_from (nat_le x.q (4000000 * x.n)) _ (le-leb x.q (4000000 * x.n) h.2) e))
