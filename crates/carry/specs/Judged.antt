-- What the verdict of a judged sheet says of its readings.
use Rattle.std.specs.Prelude.{◌≡◌, ℕ, true, List, [], ◌∷◌, length, ℤ, pos, Ok, Err, Result}
use Rattle.std.specs.List.{AllByRecursion}
use Rattle.fault.specs.declared.Fault.{Fault}
use Rattle.variables.specs.Sums.{reading, summed}
use Rattle.criteria.specs.Unknown.{Tells, constants}
use Rattle.entry.specs.declared.kinds.Plan.TheVariants.{Unknown}
use Rattle.entry.specs.declared.kinds.Said.{Said}
use Rattle.entry.specs.declared.kinds.Said.TheVariants.{Planned, Drum, Reading, Pair, Mark}
use Rattle.sheet.specs.Reading.{Item}
use Rattle.sheet.specs.Rules.{Taken, says}
use Rattle.carry.specs.Carrying.{Came, Lot}
use Rattle.carry.specs.Carrying.Came.{judged_lot, not_yet}

-- the readings among entries, in their order
abbrev pub readings : List Said → List ℤ
readings [] = []
readings (Planned p ∷ xs) = readings xs
readings (Drum a ∷ xs) = readings xs
readings (Reading r ∷ xs) = r ∷ readings xs
readings (Pair a b ∷ xs) = readings xs
readings (Mark b ∷ xs) = readings xs

-- a lot that was judged: the sheet is taken, its plan is of unknown deviation with constants in range, its readings are
-- the planned number, and the verdict is yes exactly when the plan's inequality holds for them
pub record Right (s : List ℕ) (t : Lot) : Type 0 where
  pub entries : List Item
  pub taken : Taken s entries
  pub limit : ℤ
  pub k : ℤ
  pub rest : List Said
  pub plan : says entries ≡ Planned (Unknown (pos t.n) limit k) ∷ rest
  pub in_range : constants limit k ≡ true
  pub planned : length (readings rest) ≡ t.n
  pub each : AllByRecursion (λ r. reading r ≡ true) (readings rest)
  pub verdict : Tells t.verdict limit k (summed (readings rest))

abbrev pub JudgedBySheet : List ℕ → Result Came Fault → Type 0
JudgedBySheet s (Ok (judged_lot t)) = Right s t
JudgedBySheet s (Ok (not_yet p)) = Unit {0}
JudgedBySheet s (Err f) = Unit {0}
