-- What the method of each plan means, made from the constants as they stand on a sheet, or the refusal.
use Rattle.std.specs.Prelude.{Bool, cond, ◌&&◌, ℤ, pos, neg_ℤ, Ok, Err, Result, int_le, unsigned_abs}
use Rattle.fault.specs.declared.Fault.{Fault}
use Rattle.fault.specs.declared.Fault.TheVariants.{PlanConstant}
use Rattle.method.specs.Meaning.{Meaning}
use Rattle.variables.specs.Sums.{reading}
use Rattle.variables.specs.declared.sums.Sums.{Sums}
use Rattle.criteria.specs.Criteria.{factor}
use Rattle.criteria.specs.Known.{known, constants as known_constants}
use Rattle.criteria.specs.Unknown.{unknown, constants as unknown_constants}
use Rattle.criteria.specs.Mean.{mean, constants as mean_constants}
use Rattle.attributes.specs.Marks.{marks, constants as marks_constant}
use Rattle.attributes.specs.declared.counts.Counts.{Counts}
use Rattle.both.specs.Both.{both}
use Rattle.through.specs.Passings.{gauged, paired, reversed, constants as gauge_limits}
use Rattle.through.specs.declared.difference.Pair.{Pair}

-- a method whose constants are in their ranges, or the refusal
abbrev pub piled : {R X : Type 0} → Bool → Meaning R X → Result (Meaning R X) Fault
piled ok m = cond ok (Ok m) (Err (PlanConstant 0))

-- K: lower limit l, deviation s, factor k
abbrev pub known_pile : ℤ → ℤ → ℤ → Result (Meaning ℤ Sums) Fault
known_pile l s k = piled (known_constants l s k) (known l s k)

-- U: lower limit l, factor k
abbrev pub unknown_pile : ℤ → ℤ → Result (Meaning ℤ Sums) Fault
unknown_pile l k = piled (unknown_constants l k) (unknown l k)

-- W: both limits are readings, the lower one at most the upper one, and k is a factor
abbrev pub window_constants : ℤ → ℤ → ℤ → Bool
window_constants l u k = reading l && (reading u && (int_le l u && factor k))

-- W: each limit by the criterion of unknown deviation, the upper one on the readings with the sign turned
abbrev pub window : ℤ → ℤ → ℤ → Meaning ℤ (Sums × Sums)
window l u k = both (unknown l k) (reversed (unknown (neg_ℤ u) k))

abbrev pub window_pile : ℤ → ℤ → ℤ → Result (Meaning ℤ (Sums × Sums)) Fault
window_pile l u k = piled (window_constants l u k) (window l u k)

-- A: at most a marks do not conform
abbrev pub marks_pile : ℤ → Result (Meaning Bool Counts) Fault
marks_pile a = piled (marks_constant a) (marks (unsigned_abs a))

-- G: limits l and h, and at most a readings outside them
abbrev pub gauged_constants : ℤ → ℤ → ℤ → Bool
gauged_constants l h a = gauge_limits l h && marks_constant a

abbrev pub gauged_pile : ℤ → ℤ → ℤ → Result (Meaning ℤ Counts) Fault
gauged_pile l h a = piled (gauged_constants l h a) (gauged l h (marks (unsigned_abs a)))

-- T: n readings are held to the mean c
abbrev pub mean_pile : ℤ → ℤ → Result (Meaning ℤ Sums) Fault
mean_pile n c = piled (mean_constants n c) (mean (unsigned_abs n) c)

-- V: the differences of n pairs are held to the mean 0
abbrev pub paired_pile : ℤ → Result (Meaning Pair Sums) Fault
paired_pile n = piled (mean_constants n (pos 0)) (paired (mean (unsigned_abs n) (pos 0)))
