-- The texts of entries, by what printing their numbers gives.
use Rattle.std.specs.Prelude.{◌≡◌, ℕ, true, false, List, [], ◌∷◌, ◌++◌, ℤ, Ok, Result}
use Rattle.std.specs.Fmt.{signed_decimal}
use Rattle.std.specs.List.{AllByRecursion}
use Rattle.fault.specs.declared.Fault.{Fault}
use Rattle.entry.specs.declared.kinds.Plan.TheVariants.{Known, Unknown, Window, Marks, Gauged, Mean, Paired}
use Rattle.entry.specs.declared.kinds.Said.{Said}
use Rattle.entry.specs.declared.kinds.Said.TheVariants.{Planned, Drum, Reading, Pair, Mark}
use Rattle.entry.specs.Entries.{letter_of}
use Rattle.entry.specs.Printed.{Short}

-- what printing the numbers gives, a single comma between each and the next
abbrev pub commas : List ℤ → List ℕ
commas [] = []
commas (x ∷ []) = signed_decimal x
commas (x ∷ y ∷ ys) = signed_decimal x ++ 44 ∷ commas (y ∷ ys)

-- the numbers of an entry, in the order in which they stand
abbrev pub numbers_in : Said → List ℤ
numbers_in (Planned (Known n l s k)) = n ∷ l ∷ s ∷ k ∷ []
numbers_in (Planned (Unknown n l k)) = n ∷ l ∷ k ∷ []
numbers_in (Planned (Window n l u k)) = n ∷ l ∷ u ∷ k ∷ []
numbers_in (Planned (Marks n a)) = n ∷ a ∷ []
numbers_in (Planned (Gauged n l h a)) = n ∷ l ∷ h ∷ a ∷ []
numbers_in (Planned (Mean n m)) = n ∷ m ∷ []
numbers_in (Planned (Paired n)) = n ∷ []
numbers_in (Drum a) = a ∷ []
numbers_in (Reading a) = a ∷ []
numbers_in (Pair a b) = a ∷ b ∷ []
numbers_in (Mark b) = []

-- the letter, directly followed by the numbers; a mark is M and + where the unit conforms, M and - where it does not
abbrev pub spelled : Said → List ℕ
spelled (Planned p) = letter_of p ∷ commas (numbers_in (Planned p))
spelled (Drum a) = 68 ∷ commas (a ∷ [])
spelled (Reading a) = 82 ∷ commas (a ∷ [])
spelled (Pair a b) = 80 ∷ commas (a ∷ b ∷ [])
spelled (Mark true) = 77 ∷ 43 ∷ []
spelled (Mark false) = 77 ∷ 45 ∷ []

-- a text reads as the entry x exactly when it is what x is spelled as and no number of x has more than seven digits
pub record Spelled (bs : List ℕ) (r : Result Said Fault) : Type 0 where
  pub reads : (x : Said) → r ≡ Ok x → (bs ≡ spelled x) × AllByRecursion Short (numbers_in x)
  pub spells : (x : Said) → bs ≡ spelled x → AllByRecursion Short (numbers_in x) → r ≡ Ok x
