-- A pile is made when its parts are, and is refused when one of them is.
use Rattle.std.proofs.Common.{◌≡◌, ℕ, Bool, true, false, cond, ◌&&◌, Ok, Err, Result, refl, ap, arith}
use Rattle.fault.specs.declared.Fault.{Fault}
use Rattle.fault.specs.declared.Fault.TheVariants.{PlanConstant}

module _ {T : Type 0} (b : Bool) (a : T) where
  -- what was made has the constants that it was made from, which are in range
  pub granted : (x : T) → ◌≡◌ {A = Result T Fault} (Ok x) (cond b (Ok a) (Err (PlanConstant 0))) → (b ≡ true) × (x ≡ a)
  granted x h = cases b h
    where
      cases : (b : Bool) → ◌≡◌ {A = Result T Fault} (Ok x) (cond b (Ok a) (Err (PlanConstant 0))) → (b ≡ true) × (x ≡ a)
      cases true h = (refl, cc)
      cases false h = let z : ◌≡◌ {A = ℕ} 0 1 = cc in absurd (omega arith)

  pub refused : (f : Fault) → ◌≡◌ {A = Result T Fault} (Err f) (cond b (Ok a) (Err (PlanConstant 0))) → (b ≡ false) × (f ≡ PlanConstant 0)
  refused f h = cases b h
    where
      cases : (b : Bool) → ◌≡◌ {A = Result T Fault} (Err f) (cond b (Ok a) (Err (PlanConstant 0))) → (b ≡ false) × (f ≡ PlanConstant 0)
      cases true h = let z : ◌≡◌ {A = ℕ} 0 1 = cc in absurd (omega arith)
      cases false h = (refl, cc)

-- the same the other way round
pub as_made : {T : Type 0} (b : Bool) (a x : T) → b ≡ true → x ≡ a → ◌≡◌ {A = Result T Fault} (Ok x) (cond b (Ok a) (Err (PlanConstant 0)))
as_made true a x e h = ap Ok h
as_made false a x e h = let z : ◌≡◌ {A = ℕ} 0 1 = cc in absurd (omega arith)

pub as_refused : {T : Type 0} (b : Bool) (a : T) (f : Fault) → b ≡ false → f ≡ PlanConstant 0 → ◌≡◌ {A = Result T Fault} (Err f) (cond b (Ok a) (Err (PlanConstant 0)))
as_refused true a f e h = let z : ◌≡◌ {A = ℕ} 0 1 = cc in absurd (omega arith)
as_refused false a f e h = ap Err h

-- the second part of a test fails it
pub second_false : (a b : Bool) → b ≡ false → (a && b) ≡ false
second_false true b e = e
second_false false b e = refl
