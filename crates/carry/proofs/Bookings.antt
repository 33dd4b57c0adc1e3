-- What booking comes to.
use Rattle.std.proofs.Common.{◌≡◌, ℕ, ◌<◌, ◌≤◌, Bool, true, false, cond, ltb, eqb, List, [], ◌∷◌, ◌++◌, length, ◌⊎◌, ℤ, nat_abs, Some, None, Ok, Err, Option, Result, refl, ap, subst, inl, inr, arith}
use Rattle.std.proofs.lemmas.Bool.{le-ltb, lt-ltb, ltb-true}
use Rattle.std.specs.List.{position}
use Rattle.fault.specs.declared.Fault.{Fault}
use Rattle.fault.specs.declared.Fault.TheVariants.{NameRange, RowFull}
use Rattle.variables.specs.Sums.{reading, summed, together}
use Rattle.fault.proofs.Passed.{then_ok}
use Rattle.carry.specs.Booking.{Books, called, drum_called, entered}
use Rattle.carry.specs.Drums.{counted, drum, name_of, named}
use Rattle.carry.specs.declared.report.Drum.{Drum}

-- a drum that was not named before
module _ (z : ℤ) (x : ℕ) (b : Books) (named : Ok x ≡ name_of z) (new : None ≡ position (λ (d : Drum). eqb d.name x) b.drums) where
  pub row_full : 64 ≤ length b.drums → drum_called z b ≡ Err (RowFull 0)
  row_full h = rw (← named, ← new, le-ltb (length b.drums) 64 h)

  pub next_drum : (ds : List Drum) (l : ℕ) → l < 64 → l ≡ length b.drums → ds ≡ b.drums ++ drum x 0 ∷ [] → drum_called z b ≡ Ok (record { drums = ds; current = l; total = b.total })
  next_drum ds l h f e = rw (← named, ← new, lt-ltb (length b.drums) 64 (omega arith), e, f)

-- an answer that is a value came by the test
passed : (a : Bool) (r : Result Books Fault) (f : Fault) (c : Books) → cond a r (Err f) ≡ Ok c → (a ≡ true) × (r ≡ Ok c)
passed true r f c h = (refl, h)
passed false r f c h = absurd (cc)

same_books : (b c : Books) → ◌≡◌ {A = Result Books Fault} (Ok b) (Ok c) → c ≡ b
same_books b c h = cc

-- the drums are those that were named, or one more
abbrev Kept : ℕ → Books → Books → Type 0
Kept x b c = (c.total ≡ b.total) × ((c.drums ≡ b.drums) ⊎ (c.drums ≡ b.drums ++ drum x 0 ∷ []))

called_kept : (x : ℕ) (b c : Books) (o : Option ℕ) → called x b o ≡ Ok c → Kept x b c
called_kept x b c (Some i) h = let e = same_books _ c h in (ap (λ (y : Books). y.total) e, inl (ap (λ (y : Books). y.drums) e))
called_kept x b c None h = let e = same_books _ c (passed (ltb (length b.drums) 64) _ _ c h).1 in (ap (λ (y : Books). y.total) e, inr (ap (λ (y : Books). y.drums) e))

name_is : (a : Bool) (x y : ℕ) → ◌≡◌ {A = Result ℕ Fault} (cond a (Ok y) (Err (NameRange 0))) (Ok x) → x ≡ y
name_is true x y h = cc
name_is false x y h = absurd (cc)

-- naming a drum books no reading, and adds at most that drum
pub drum_kept : (z : ℤ) (b c : Books) → drum_called z b ≡ Ok c → (c.total ≡ b.total) × ((c.drums ≡ b.drums) ⊎ (c.drums ≡ b.drums ++ drum (nat_abs z) 0 ∷ []))
drum_kept z b c h =
    let p = then_ok (λ x. called x b (position (λ (d : Drum). eqb d.name x) b.drums)) (name_of z) c h in
    subst (λ x. Kept x b c) (name_is (named z) p.0 (nat_abs z) p.1) (called_kept p.0 b c (position (λ (d : Drum). eqb d.name p.0) b.drums) p.2)

pub entered_ok : (n : ℕ) (r : ℤ) (b c : Books) → entered n r b ≡ Ok c → (reading r ≡ true) × (b.total.n < n) × (c.total ≡ together b.total (summed (r ∷ []))) × (c.drums ≡ counted b.current b.drums)
entered_ok n r b c h =
    let p = passed (reading r) _ _ c h in
    let q = passed (ltb b.total.n n) _ _ c p.1 in
    let e = same_books _ c q.1 in
    (p.0, ltb-true b.total.n n q.0, ap (λ (x : Books). x.total) e, ap (λ (x : Books). x.drums) e)
