-- What a verdict says, and how it comes from a comparison.
use Rattle.std.specs.Prelude.{◌≡◌, ℕ, Bool, true, false, cond, ◌&&◌, List, ℤ, int_le, refl, codes}
use Rattle.method.specs.declared.verdict.Verdict.{Verdict}
use Rattle.method.specs.declared.verdict.Verdict.TheVariants.{Accepted, NotAccepted}

-- whether the lot is accepted
abbrev pub yes : Verdict → Bool
yes Accepted = true
yes NotAccepted = false

-- accepted where it is true
abbrev pub found : Bool → Verdict
found true = Accepted
found false = NotAccepted

-- what is printed of it
abbrev pub words : Verdict → List ℕ
words Accepted = codes "accepted"
words NotAccepted = codes "not accepted"

-- accepted where the left number is at most the right one
abbrev pub compared : ℤ → ℤ → Verdict
compared l r = cond (int_le l r) Accepted NotAccepted

-- the verdict is yes exactly when P holds
abbrev pub Exactly : Verdict → Type 0 → Type 0
Exactly v P = (yes v ≡ true → P) × (P → yes v ≡ true)

yes_cond : (b : Bool) → yes (cond b Accepted NotAccepted) ≡ b
yes_cond true = refl
yes_cond false = refl

-- a comparison's verdict is yes exactly when the comparison holds
pub yes_compared : (l r : ℤ) → yes (compared l r) ≡ int_le l r
yes_compared l r = yes_cond (int_le l r)

-- the lower of two verdicts
abbrev pub lower : Verdict → Verdict → Verdict
lower Accepted v = v
lower NotAccepted v = NotAccepted

-- the lower of two verdicts is yes exactly when both are
pub yes_lower : (a b : Verdict) → yes (lower a b) ≡ (yes a && yes b)
yes_lower Accepted b = refl
yes_lower NotAccepted b = refl
