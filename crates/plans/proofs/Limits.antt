-- A lower and an upper limit of readings.
use Rattle.std.proofs.Common.{◌≡◌, ◌≤◌, true, ℤ, pos, ◌-ℤ◌, neg_ℤ, nat_abs, ◌≤ℤ◌, arith, w32, to_z, of_z}
use lib.Signed.{le_z}
use borrow.Author.Differences.{ints}
use Rattle.std.proofs.lemmas.Bool.{and_from, and_parts}
use Rattle.method.proofs.Exactly.{le_from, le_to}
use Rattle.criteria.specs.Criteria.{factor}
use Rattle.criteria.specs.Unknown.{constants}
use Rattle.plans.specs.Piles.{window_constants}
use Rattle.variables.specs.Sums.{reading}

-- a reading is small
pub small : (u : ℤ) → reading u ≡ true → nat_abs u ≤ 2000
small u h =
    let p = and_parts (le_z (neg_ℤ (pos 2000)) u) (le_z u (pos 2000)) h in
    let low = le_from (neg_ℤ (pos 2000)) u p.0 in
    let high = le_from u (pos 2000) p.1 in
    omega (arith, ints)

low_side : (u : ℤ) → nat_abs u ≤ 2000 → neg_ℤ (pos 2000) ≤ℤ neg_ℤ u
low_side u h = omega (arith, ints)

high_side : (u : ℤ) → nat_abs u ≤ 2000 → neg_ℤ u ≤ℤ pos 2000
high_side u h = omega (arith, ints)

-- a reading with its sign turned is one
pub turned : (u : ℤ) → reading u ≡ true → reading (neg_ℤ u) ≡ true
turned u h = and_from (le_z (neg_ℤ (pos 2000)) (neg_ℤ u)) (le_z (neg_ℤ u) (pos 2000)) (le_to (neg_ℤ (pos 2000)) (neg_ℤ u) (low_side u (small u h))) (le_to (neg_ℤ u) (pos 2000) (high_side u (small u h)))

-- the sign of a reading is turned in 32 bits, and comes back
pub turned_back : (u : ℤ) → nat_abs u ≤ 2000 → to_z w32 (of_z w32 (pos 0 -ℤ to_z w32 (of_z w32 u))) ≡ neg_ℤ u
turned_back u h = omega (arith, ints)

-- the constants of the two limits are those of each
pub window_from : (l u k : ℤ) → reading u ≡ true → le_z l u ≡ true → constants l k ≡ true → window_constants l u k ≡ true
window_from l u k r o h =
    let p = and_parts (reading l) (factor k) h in
    and_from (reading l) _ p.0 (and_from (reading u) _ r (and_from (le_z l u) (factor k) o p.1))

pub upper_ok : (l u k : ℤ) → reading u ≡ true → constants l k ≡ true → constants (neg_ℤ u) k ≡ true
upper_ok l u k r h = and_from (reading (neg_ℤ u)) (factor k) (turned u r) (and_parts (reading l) (factor k) h).1
