-- Verdicts that are yes exactly when a comparison holds.
use Rattle.std.proofs.Common.{◌≡◌, Bool, true, false, cond, ◌&&◌, ℤ, ◌≤ℤ◌, sym, refl, ◌∙◌, arith}
use Rattle.std.specs.Prelude.{int_le}
use Rattle.std.proofs.lemmas.Int.{ints}
use Rattle.std.proofs.lemmas.Bool.{and_parts, and_from}
use Rattle.method.specs.declared.verdict.Verdict.{Verdict}
use Rattle.method.specs.declared.verdict.Verdict.TheVariants.{NotAccepted}
use Rattle.method.specs.Verdicts.{Exactly, compared, yes, yes_compared}

pub le_from : (a b : ℤ) → int_le a b ≡ true → a ≤ℤ b
le_from a b h = omega (arith, ints)

pub le_to : (a b : ℤ) → a ≤ℤ b → int_le a b ≡ true
le_to a b h = grind (arith, ints)

-- a comparison
pub compared_exactly : (a b : ℤ) → Exactly (compared a b) (a ≤ℤ b)
compared_exactly a b = (λ h. le_from a b (sym (yes_compared a b) ∙ h), λ h. yes_compared a b ∙ le_to a b h)

both : (b : Bool) (v : Verdict) → yes (cond b v NotAccepted) ≡ (b && yes v)
both true v = refl
both false v = refl

-- a verdict behind a comparison
pub guarded_exactly : (a b : ℤ) (v : Verdict) {P : Type 0} → Exactly v P → Exactly (cond (int_le a b) v NotAccepted) ((a ≤ℤ b) × P)
guarded_exactly a b v e =
    let f = both (int_le a b) v in (
      λ h. let p = and_parts (int_le a b) (yes v) (sym f ∙ h) in (le_from a b p.0, e.0 p.1),
      λ h. f ∙ and_from (int_le a b) (yes v) (le_to a b h.0) (e.1 h.1),
    )
