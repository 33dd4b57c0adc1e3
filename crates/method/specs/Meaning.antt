-- What a method of inspection means, and the laws that whoever adds one shows.
use Rattle.std.specs.Prelude.{◌≡◌, ℕ, ◌+◌, ◌≤◌, Bool, true, false, List, [], ◌++◌, length, Some, None, Option, ◌≢◌}
use Rattle.std.specs.List.{AllByRecursion}
use Rattle.method.specs.declared.verdict.Verdict.{Verdict}

-- R is the readings, X the totals of lists of readings, as plain numbers
pub record Meaning (R X : Type 0) : Type 0 where
  -- which readings may be entered
  pub takes : R → Bool
  -- which numbers of readings may be planned
  pub allows : ℕ → Bool
  -- the numbers of a list of readings
  pub total : List R → X
  -- the numbers of two lists put together
  pub join : X → X → X
  -- how many readings were entered
  pub count : X → ℕ
  -- what is said of a lot whose readings have these numbers
  pub verdict : X → Verdict

-- the method takes each reading of the list
abbrev pub Taken : {R X : Type 0} → Meaning R X → List R → Type 0
Taken m xs = AllByRecursion (λ r. m.takes r ≡ true) xs

-- what every method keeps
pub record Laws {R X : Type 0} (m : Meaning R X) : Type 0 where
  -- the total of two lists joined is the joining of their totals
  pub appended : (xs ys : List R) → Taken m xs → Taken m ys → m.total (xs ++ ys) ≡ m.join (m.total xs) (m.total ys)
  -- neither the grouping nor the order of joining matters
  pub assoc : (x y z : X) → m.join (m.join x y) z ≡ m.join x (m.join y z)
  pub comm : (x y : X) → m.join x y ≡ m.join y x
  -- the total of no readings changes nothing
  pub neutral : (x : X) → m.join (m.total []) x ≡ x
  -- the count of a total is the length of its list
  pub counted : (xs : List R) → Taken m xs → m.count (m.total xs) ≡ length xs
  -- joining counts no reading twice
  pub shared : (x y : X) → m.count (m.join x y) ≤ m.count x + m.count y

-- numbers made into a tally: one that gives them, or none where no tally does
abbrev pub Made : {T X : Type 0} → (T → X) → X → Option T → Type 0
Made of x None = (t : _) → of t ≢ x
Made of x (Some t) = of t ≡ x

-- a test and what it tells
abbrev pub Decides : Bool → Type 0 → Type 0
Decides true P = P
Decides false P = P → ⊥
