-- What answers that are passed on come to.
use Rattle.std.proofs.Common.{◌≡◌, ℕ, Bool, true, false, cond, List, ℤ, Ok, Err, Result, sym, refl, ap, ◌∙◌, inl, inr, ⊎_elim, w32, SFits, to_z, of_z}
use Rattle.std.proofs.lemmas.Int.{to_z-of_z}
use Rattle.fault.specs.Faults.{met}
use Rattle.fault.specs.Located.{located, then}
use Rattle.fault.specs.declared.Fault.{Fault}
use Rattle.fault.specs.declared.Fault.TheVariants.{PlanConstant}
use Rattle.method.specs.Answers.{given}
use Rattle.criteria.specs.Unknown.{constants, newly}
use Rattle.criteria.specs.declared.unknown.Unknown.{Unknown}
use Rattle.entry.specs.declared.kinds.Plan.{Plan}
use Rattle.entry.specs.declared.kinds.Plan.TheVariants.{Unknown as UnknownPlan}
use Rattle.sheet.specs.Reading.{Progress, opened}
use Rattle.sheet.specs.Sheets.{Answered}
use Rattle.sheet.specs.First.{first_of}
use Rattle.carry.specs.Booking.{view}
use Rattle.carry.specs.Carrying.{Begun, blank, books_of, closed, lot_under, outcome_of, planned_number}
use Rattle.carry.specs.declared.booked.Booked.{Booked}
use Rattle.carry.specs.Carrying.Came.{judged_lot}

-- a refusal is passed on
pub passed_on : {X Y : Type 0} (x : Result X Fault) (g : X → Result Y Fault) (f : Fault) → Answered (Err f) x → Answered (Err f) (then g x)
passed_on (Ok y) g f a = ⊎_elim (λ e. inl (cc)) (λ e. absurd (cc)) a
passed_on (Err h) g f a = ⊎_elim (λ e. inl (cc)) (λ e. inr (cc)) a

pub answered_ok : {X : Type 0} (x : Result X Fault) (y : X) → Answered (Ok y) x → x ≡ Ok y
answered_ok x y a = ⊎_elim (λ e. absurd (cc)) sym a

abbrev Pair : Type 0
Pair = ℤ × ℤ

granted : (b : Bool) (p q : Pair) (f : Fault) → ◌≡◌ {A = Result Pair Fault} (Ok p) (cond b (Ok q) (Err f)) → (◌≡◌ {A = Result Pair Fault} (cond b (Ok q) (Err f)) (Ok q)) × (p ≡ q)
granted true p q f h = (refl, cc)
granted false p q f h = absurd (cc)

made_of : (r : Result Unknown Fault) (m : Unknown) (l k : ℤ) → Ok m ≡ located 1 r → given (λ (x : Unknown). (x.limit, x.k)) r ≡ newly l k → (newly l k ≡ Ok (l, k)) × (◌≡◌ {A = Pair} (m.limit, m.k) (l, k))
made_of (Ok n) m l k h e =
    let s : m ≡ n = cc in
    let g = granted (constants l k) (n.limit, n.k) (l, k) (PlanConstant 0) e in
    (g.0, ap (λ (x : Unknown). (x.limit, x.k)) s ∙ g.1)
made_of (Err f) m l k h e = absurd (cc)

-- a method that was made has the constants that it was made with
pub made_method : (l k : ℤ) → SFits w32 l → SFits w32 k → (r : Result Unknown Fault) (m : Unknown) → Ok m ≡ located 1 r → given (λ (x : Unknown). (x.limit, x.k)) r ≡ newly (to_z w32 (of_z w32 l)) (to_z w32 (of_z w32 k)) → (newly l k ≡ Ok (l, k)) × (m.limit ≡ l) × (m.k ≡ k)
made_method l k f g r m h e =
    let u = to_z-of_z w32 l f in
    let v = to_z-of_z w32 k g in
    let p = made_of r m l k h (rw (u, v) at e) in
    (p.0, ap (λ (x : Pair). x.0) p.1, ap (λ (x : Pair). x.1) p.1)

-- books that were begun, or refused, for a planned number
pub begun_ok : (x : Result ℕ Fault) (r : Result Booked Fault) (b : Booked) → Ok b ≡ located 1 r → Begun r x → (x ≡ Ok b.n) × (view b ≡ blank)
begun_ok x (Ok c) b h e = let s : b ≡ c = cc in rw s e
begun_ok x (Err f) b h e = absurd (cc)

pub begun_err : (x : Result ℕ Fault) (r : Result Booked Fault) (f : Fault) → Err f ≡ located 1 r → Begun r x → located 1 x ≡ Err f
begun_err x (Ok c) f h e = absurd (cc)
begun_err x (Err g) f h e = let s : f ≡ met 1 g = cc in rw (e, s)

module _ (n l k : ℤ) (q : Progress) (made : newly l k ≡ Ok (l, k)) where
  pub lot_goes : (m : ℕ) → planned_number n ≡ Ok m → lot_under n l k q ≡ then (closed m l k) (books_of m q blank)
  lot_goes m h = rw (made, h)

  pub lot_unplanned : (f : Fault) → located 1 (planned_number n) ≡ Err f → lot_under n l k q ≡ Err f
  lot_unplanned f h = rw (made, h)

-- a sheet that begins with a plan of unknown deviation
pub begins_unknown : (s : List ℕ) (q r : Progress) (p : Plan) (n l k : ℤ) → Ok q ≡ opened s → first_of q ≡ Ok (p, r) → p ≡ UnknownPlan n l k → outcome_of s ≡ then (λ x. Ok (judged_lot x)) (lot_under n l k r)
begins_unknown s q r p n l k h e d = rw (← h, e, d)
