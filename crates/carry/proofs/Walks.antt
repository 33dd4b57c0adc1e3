-- One more entry of a sheet that is carried out.
use Rattle.std.proofs.Common.{◌≡◌, ℕ, suc, ◌+◌, ◌-◌, Some, None, Ok, Err, Result, sym, ap, ◌∙◌, inl, inr, ⊎_elim, arith}
use Rattle.fault.specs.Faults.{met}
use Rattle.fault.specs.declared.Fault.{Fault}
use Rattle.sheet.specs.Reading.{Item, Progress, advanced}
use Rattle.sheet.proofs.Runs.{Pace, steps, stops, refuses}
use Rattle.sheet.specs.Sheets.{Answered}
use Rattle.carry.specs.Booking.{Books, Done, carried_out, view}
use Rattle.carry.specs.Carrying.{books_from, books_of}
use Rattle.carry.specs.declared.booked.Booked.{Booked}

module _ (n : ℕ) (q q' : Progress) (b : Books) where
  -- an entry was read and carried out
  pub goes : (x : Item) (c : Books) → ◌≡◌ {A = Pace} (Ok (Some x), q') (advanced q) → carried_out n x.says b ≡ Ok c → books_of n q b ≡ books_of n q' c
  unfolding books_from
  goes x c h d =
      let w = steps q q' x h in
      let e : q.count - q.next ≡ suc (q.count - (q.next + 1)) = omega (arith, w.0) in
      rw (e, w.1, d, w.2, w.3, w.4)

  -- an entry was read, and carrying it out was refused
  pub denied : (x : Item) (f : Fault) → ◌≡◌ {A = Pace} (Ok (Some x), q') (advanced q) → carried_out n x.says b ≡ Err f → books_of n q b ≡ Err (met (q.next + 1) f)
  unfolding books_from
  denied x f h d =
      let w = steps q q' x h in
      let e : q.count - q.next ≡ suc (q.count - (q.next + 1)) = omega (arith, w.0) in
      rw (e, w.1, d)

  -- reading the entry was refused
  pub unread : (f : Fault) → ◌≡◌ {A = Pace} (Err f, q') (advanced q) → books_of n q b ≡ Err f
  unfolding books_from
  unread f h =
      let w = refuses q q' f h in
      let e : q.count - q.next ≡ suc (q.count - (q.next + 1)) = omega (arith, w.0) in
      rw (e, w.1)

  -- all entries are read
  pub ends : ◌≡◌ {A = Pace} (Ok None, q') (advanced q) → books_of n q b ≡ Ok b
  unfolding books_from
  ends h =
      let w = stops q q' h in
      let e : q.count - q.next ≡ 0 = omega (arith, w) in
      rw e

-- booking that began at q₀ with b₀ has come to b at q: what is left comes to what the whole does
module _ (n : ℕ) (q₀ : Progress) (b₀ : Books) where
  abbrev pub Along : Booked → Progress → Type 0
  Along b q = (b.n ≡ n) × (books_of n q₀ b₀ ≡ books_of n q (view b))

  module _ (b c : Booked) (q q' : Progress) (x : Item) (along : Along b q) (paced : ◌≡◌ {A = Pace} (Ok (Some x), q') (advanced q)) where
    pub along_more : (r : Result (Unit {0}) Fault) (u : Unit {0}) → r ≡ Ok u → Done b r c (carried_out b.n x.says (view b)) → Along c q'
    along_more r u e done =
        let d = rw e at done in
        let m = rw along.0 at d.1 in
        (d.0 ∙ along.0, along.1 ∙ goes n q q' (view b) x (view c) paced m)

    pub along_denied : (r : Result (Unit {0}) Fault) (f : Fault) → r ≡ Err f → Done b r c (carried_out b.n x.says (view b)) → Answered (Err (met (q.next + 1) f)) (books_of n q₀ b₀)
    along_denied r f e done =
        let d = rw e at done in
        ⊎_elim (λ k. inl (ap (λ z. Err (met (q.next + 1) z)) k)) (λ k. inr (sym (along.1 ∙ denied n q q' (view b) x f paced (rw along.0 at k)))) d.2
