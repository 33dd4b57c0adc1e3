-- The size of a whole number, and what bounds the size of a sum, a product and a square.
use Rattle.std.specs.Prelude.{◌≡◌, ℕ, zero, suc, ◌+◌, ◌-◌, ◌*◌, ◌≤◌, ℤ, pos, negsuc, ◌+ℤ◌, ◌*ℤ◌, neg_ℤ, unsigned_abs, refl}
use Rattle.std.proofs.Common.{sym, subst, ⊎_elim, mul-le-mul, arith}
use Rattle.std.proofs.lemmas.Int.{ints}
use Rattle.std.proofs.lemmas.Bool.{cases_lt}

pub square_size : (z : ℤ) → z *ℤ z ≡ pos (unsigned_abs z * unsigned_abs z)
square_size (pos n) = refl
square_size (negsuc n) = refl

pub size_sum : (a b : ℤ) → unsigned_abs (a +ℤ b) ≤ unsigned_abs a + unsigned_abs b
size_sum a b = omega (arith, ints)

pub size_neg : (z : ℤ) → unsigned_abs (neg_ℤ z) ≡ unsigned_abs z
size_neg (pos zero) = refl
size_neg (pos (suc n)) = refl
size_neg (negsuc n) = refl

size_product : (a b : ℤ) → unsigned_abs (a *ℤ b) ≡ unsigned_abs a * unsigned_abs b
size_product (pos a) (pos b) = refl
size_product (pos a) (negsuc b) = size_neg (pos (a * suc b))
size_product (negsuc a) (pos b) = size_neg (pos (suc a * b))
size_product (negsuc a) (negsuc b) = refl

pub product_within : (a b : ℤ) (m k : ℕ) → unsigned_abs a ≤ m → unsigned_abs b ≤ k → unsigned_abs (a *ℤ b) ≤ m * k
product_within a b m k f g = rw (size_product a b) (mul-le-mul f g)

four_products : (x y : ℕ) → 4 * (x * y) ≤ (x + y) * (x + y)
four_products x y =
    ⊎_elim
    (λ h. let e : y ≡ x + (y - x) = omega arith in subst (λ t. 4 * (x * t) ≤ (x + t) * (x + t)) (sym e) (omega arith))
    (λ h. let e : x ≡ y + (x - y) = omega arith in subst (λ t. 4 * (t * y) ≤ (t + y) * (t + y)) (sym e) (omega arith))
    (cases_lt x y)

-- the mean of two numbers is at least the root of their product
mean_root : (x y z : ℕ) → z * z ≤ x * y → 2 * z ≤ x + y
mean_root x y z h =
    ⊎_elim
    (λ k. let k' : x + y + 1 ≤ 2 * z = omega arith in let m : (x + y + 1) * (x + y + 1) ≤ (2 * z) * (2 * z) = mul-le-mul k' k' in absurd (omega (arith, four_products x y)))
    (λ k. k)
    (cases_lt (x + y) (2 * z))

-- where s × s ≤ n × q and t × t ≤ m × p, it is so of their sums
pub squares_join : (n q s m p t u : ℕ) → s * s ≤ n * q → t * t ≤ m * p → u ≤ s + t → u * u ≤ (n + m) * (q + p)
squares_join n q s m p t u h k l =
    let both : (s * s) * (t * t) ≤ (n * q) * (m * p) = mul-le-mul h k in
    let mixed : (s * t) * (s * t) ≤ (n * p) * (m * q) = omega arith in
    let cross = mean_root (n * p) (m * q) (s * t) mixed in
    let whole : u * u ≤ (s + t) * (s + t) = mul-le-mul l l in
    omega arith
