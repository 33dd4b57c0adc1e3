-- A small whole number goes to 64 bits and comes back.
use Rattle.std.specs.Prelude.{◌≡◌, ◌+◌, ◌^◌, ◌<◌, ℤ, ◌-ℤ◌, neg_ℤ, FitsSigned, unsigned_abs}
use Rattle.std.proofs.Common.{ap, ◌∙◌, arith, to_z, of_z}
use Rattle.std.specs.Int.{w64}
use Rattle.std.proofs.lemmas.Int.{to_z-of_z, ints}
use Rattle.integers.specs.Size.{size_sum, size_neg}

pub fits : (z : ℤ) → unsigned_abs z < 2 ^ 63 → FitsSigned w64 z
fits z h = omega (arith, ints)

pub back : (z : ℤ) → unsigned_abs z < 2 ^ 63 → to_z w64 (of_z w64 z) ≡ z
back z h = to_z-of_z w64 z (fits z h)

pub back_sub : (a b : ℤ) → unsigned_abs a + unsigned_abs b < 2 ^ 63 → to_z w64 (of_z w64 (to_z w64 (of_z w64 a) -ℤ to_z w64 (of_z w64 b))) ≡ a -ℤ b
back_sub a b h =
    let f = back a (omega arith) in
    let g = back b (omega arith) in
    let small : unsigned_abs (a -ℤ b) < 2 ^ 63 = omega (arith, size_sum a (neg_ℤ b), size_neg b) in
    ap (λ z. to_z w64 (of_z w64 (z -ℤ to_z w64 (of_z w64 b)))) f ∙ ap (λ z. to_z w64 (of_z w64 (a -ℤ z))) g ∙ back (a -ℤ b) small
