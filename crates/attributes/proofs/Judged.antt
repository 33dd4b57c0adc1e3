-- The verdict is yes exactly when the marks meet what is asked.
use Rattle.std.proofs.Common.{ℕ, ◌≤◌, pos, ◌≤ℤ◌, arith}
use Rattle.std.proofs.lemmas.Int.{ints}
use Rattle.method.proofs.Exactly.{compared_exactly}
use Rattle.attributes.specs.declared.counts.Counts.{Counts}
use Rattle.attributes.specs.Marks.{judged, Tells}

from_pos : (a b : ℕ) → pos a ≤ℤ pos b → a ≤ b
from_pos a b h = omega (arith, ints)

to_pos : (a b : ℕ) → a ≤ b → pos a ≤ℤ pos b
to_pos a b h = omega (arith, ints)

pub marks_tells : (most : ℕ) (x : Counts) → Tells (judged most x) most x
marks_tells most x =
    let e = compared_exactly (pos x.z) (pos most) in
    (λ h. from_pos x.z most (e.0 h), λ u. e.1 (to_pos x.z most u))
