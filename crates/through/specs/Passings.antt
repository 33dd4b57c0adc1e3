-- The three ways of passing a reading on, and what each means over a method below.
use Rattle.std.specs.Prelude.{Bool, cond, ◌&&◌, ℤ, ◌-ℤ◌, neg_ℤ, Ok, Err, Result, int_le}
use Rattle.fault.specs.declared.Fault.{Fault}
use Rattle.fault.specs.declared.Fault.TheVariants.{PlanConstant}
use Rattle.method.specs.Meaning.{Meaning}
use Rattle.variables.specs.Sums.{reading}
use Rattle.through.specs.Through.{through}
use Rattle.through.specs.declared.difference.Pair.{Pair}

-- -r for each reading r
abbrev pub negated : ℤ → ℤ
negated r = neg_ℤ r

-- a reading conforms from the low to the high limit
abbrev pub conforms : ℤ → ℤ → ℤ → Bool
conforms low high r = int_le low r && int_le r high

-- the limits that a gauge may have: both are readings, the low one at most the high one
abbrev pub constants : ℤ → ℤ → Bool
constants low high = reading low && (reading high && int_le low high)

-- the limits of the gauge that is made of low and high, or the refusal
abbrev pub newly : ℤ → ℤ → Result (ℤ × ℤ) Fault
newly low high = cond (constants low high) (Ok (low, high)) (Err (PlanConstant 0))

-- the first number less the second
abbrev pub difference : Pair → ℤ
difference p = p.first -ℤ p.second

-- both numbers of the pair are readings, and their difference is a reading again
abbrev pub pair_fits : Pair → Bool
pair_fits p = reading p.first && (reading p.second && reading (difference p))

-- the method below, on the readings with the sign turned
abbrev pub reversed : {X : Type 0} → Meaning ℤ X → Meaning ℤ X
reversed m = through reading negated m

-- the method below, on which readings conform
abbrev pub gauged : {X : Type 0} → ℤ → ℤ → Meaning Bool X → Meaning ℤ X
gauged low high m = through reading (conforms low high) m

-- the method below, on the differences of pairs
abbrev pub paired : {X : Type 0} → Meaning ℤ X → Meaning Pair X
paired m = through pair_fits difference m
