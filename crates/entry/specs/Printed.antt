-- The texts of numbers, by what printing a number gives.
use Rattle.std.specs.Prelude.{◌≡◌, ℕ, ◌^◌, ◌<◌, List, ℤ, Ok, Result, unsigned_abs}
use Rattle.std.specs.Fmt.{signed_decimal}
use Rattle.fault.specs.declared.Fault.{Fault}

-- at most seven digits
abbrev pub Short : ℤ → Type 0
Short z = unsigned_abs z < 10 ^ 7

-- a text reads as the number z exactly when it is what printing z gives and z has at most seven digits
pub record Printed (bs : List ℕ) (r : Result ℤ Fault) : Type 0 where
  pub reads : (z : ℤ) → r ≡ Ok z → (bs ≡ signed_decimal z) × Short z
  pub prints : (z : ℤ) → bs ≡ signed_decimal z → Short z → r ≡ Ok z
