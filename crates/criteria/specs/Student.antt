-- Student's fractiles, in thousandths.
use Rattle.std.specs.Prelude.{ℕ, ◌+◌, ◌-◌, ◌<◌, cond, ◌&&◌, List, [], ◌∷◌, length, nat_le, slice_index}

-- the fractiles for 1 to 20 degrees of freedom
abbrev pub students : List ℕ
students =
    6314 ∷ 2920 ∷ 2353 ∷ 2132 ∷ 2015 ∷ 1943 ∷ 1895 ∷ 1860 ∷ 1833 ∷ 1812
    ∷ 1796 ∷ 1782 ∷ 1771 ∷ 1761 ∷ 1753 ∷ 1746 ∷ 1740 ∷ 1734 ∷ 1729 ∷ 1725 ∷ []

-- the fractile for d degrees of freedom, and 0 where there is none
abbrev pub student : ℕ → ℕ
student d = cond (nat_le 1 d && nat_le d 20) (slice_index students (d - 1)) 0

-- each number of the list is less than the one before it
abbrev pub Falling : List ℕ → Type 0
Falling xs = (i : ℕ) → i + 1 < length xs → slice_index xs (i + 1) < slice_index xs i
