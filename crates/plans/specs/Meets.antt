-- What the readings of a lot have to meet under each plan, over whole numbers.
use Rattle.std.specs.Prelude.{◌≤◌, Bool, List, map, ℤ, pos, neg_ℤ, unsigned_abs}
use Rattle.variables.specs.Sums.{summed}
use Rattle.criteria.specs.Known.{Upheld as KnownUpheld}
use Rattle.criteria.specs.Unknown.{Upheld}
use Rattle.criteria.specs.Mean.{Upheld as MeanUpheld}
use Rattle.attributes.specs.Counts.{marked}
use Rattle.through.specs.Passings.{conforms, difference, negated}
use Rattle.through.specs.declared.difference.Pair.{Pair}

-- K: 1,000 × (S - N × L) is at least K × σ × N
abbrev pub KnownMeets : ℤ → ℤ → ℤ → List ℤ → Type 0
KnownMeets l s k xs = KnownUpheld l s k (summed xs)

-- U: A = S - N × L is not negative, and 1,000,000 × (N - 1) × A × A is at least K × K × N × D
abbrev pub UnknownMeets : ℤ → ℤ → List ℤ → Type 0
UnknownMeets l k xs = Upheld l k (summed xs)

-- W: the same of the lower limit, and of the upper one with every sign turned
abbrev pub WindowMeets : ℤ → ℤ → ℤ → List ℤ → Type 0
WindowMeets l u k xs = Upheld l k (summed xs) × Upheld (neg_ℤ u) k (summed (map negated xs))

-- A: at most a marks do not conform
abbrev pub MarksMeet : ℤ → List Bool → Type 0
MarksMeet a xs = (marked xs).z ≤ unsigned_abs a

-- G: at most a readings are outside the limits
abbrev pub GaugedMeets : ℤ → ℤ → ℤ → List ℤ → Type 0
GaugedMeets l h a xs = (marked (map (conforms l h) xs)).z ≤ unsigned_abs a

-- T: with M = S - N × C, 1,000,000 × (N - 1) × M × M is at most T × T × D
abbrev pub MeanMeets : ℤ → ℤ → List ℤ → Type 0
MeanMeets n c xs = MeanUpheld (unsigned_abs n) c (summed xs)

-- V: the same of the differences, with C = 0
abbrev pub PairedMeets : ℤ → List Pair → Type 0
PairedMeets n xs = MeanUpheld (unsigned_abs n) (pos 0) (summed (map difference xs))
