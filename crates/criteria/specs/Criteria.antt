-- What the criteria share. In the formulas N, S and Q are the count, the sum and the sum of squares in x.
use Rattle.std.specs.Prelude.{Bool, ◌&&◌, ℤ, pos, ◌-ℤ◌, ◌*ℤ◌, int_le}
use Rattle.variables.specs.declared.sums.Sums.{Sums}

-- S - N × C: how far the sum is above that of as many readings c
abbrev pub above : ℤ → Sums → ℤ
above c x = x.s -ℤ pos x.n *ℤ c

-- a plan's factor, in thousandths, is 0 to 4,000
abbrev pub factor : ℤ → Bool
factor k = int_le (pos 0) k && int_le k (pos 4000)

-- a deviation that a plan knows is 0 to 2,000
abbrev pub deviation : ℤ → Bool
deviation s = int_le (pos 0) s && int_le s (pos 2000)
