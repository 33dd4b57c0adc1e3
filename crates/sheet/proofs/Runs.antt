-- One more entry of a whole sheet.
use Rattle.std.proofs.Common.{◌≡◌, ℕ, suc, ◌+◌, ◌-◌, ◌<◌, ◌≤◌, Bool, true, false, cond, ltb, List, [], ◌∷◌, ◌++◌, Some, None, Ok, Err, Option, Result, sym, refl, ap, arith}
use Rattle.std.proofs.lemmas.Bool.{ltb-true, ltb-false}
use Rattle.fault.proofs.Passed.{with, with_more}
use Rattle.fault.specs.Located.{then}
use Rattle.fault.specs.declared.Fault.{Fault}
use Rattle.entry.specs.declared.kinds.Said.{Said}
use Rattle.sheet.specs.Order.{followed}
use Rattle.sheet.specs.Reading.{Item, Progress, advanced, entry_at, item, moved, place_at, standing, step_at}
use Rattle.sheet.specs.Sheets.{items_from}
use Rattle.sheet.specs.declared.order.Stage.{Stage}

abbrev pub Pace : Type 0
Pace = Result (Option Item) Fault × Progress

-- the two ways of a reader, with the test and the step as they come
went : (b : Bool) (r : Result (Item × Stage) Fault) (q q' : Progress) (x : Item) → ◌≡◌ {A = Pace} (Ok (Some x), q') (cond b (moved q r) (Ok None, q)) → (b ≡ true) × (r ≡ Ok (x, q'.stage)) × (q'.sheet ≡ q.sheet) × (q'.count ≡ q.count) × (q'.next ≡ q.next + 1)
went true (Ok p) q q' x h =
    let f = ap (λ (z : Pace). z.0) h in
    let e : p.0 ≡ x = cc in
    let d : p.1 ≡ q'.stage = sym (ap (λ (z : Pace). z.1.stage) h) in
    (refl, (λ i. Ok (e i, d i)), ap (λ (z : Pace). z.1.sheet) h, ap (λ (z : Pace). z.1.count) h, ap (λ (z : Pace). z.1.next) h)
went true (Err f) q q' x h =
    cc (ap (λ (z : Pace). z.0) h)
went false r q q' x h =
    cc (ap (λ (z : Pace). z.0) h)

stayed : (b : Bool) (r : Result (Item × Stage) Fault) (q q' : Progress) → ◌≡◌ {A = Pace} (Ok None, q') (cond b (moved q r) (Ok None, q)) → b ≡ false
stayed true (Ok p) q q' h =
    cc (ap (λ (z : Pace). z.0) h)
stayed true (Err f) q q' h =
    cc (ap (λ (z : Pace). z.0) h)
stayed false r q q' h = refl

refused : (b : Bool) (r : Result (Item × Stage) Fault) (q q' : Progress) (f : Fault) → ◌≡◌ {A = Pace} (Err f, q') (cond b (moved q r) (Ok None, q)) → (b ≡ true) × (r ≡ Err f)
refused true (Ok p) q q' f h =
    cc (ap (λ (z : Pace). z.0) h)
refused true (Err g) q q' f h =
    let e = ap (λ (z : Pace). z.0) h in
    (refl, cc)
refused false r q q' f h =
    cc (ap (λ (z : Pace). z.0) h)

-- a reader that answers an entry has made a step
pub steps : (q q' : Progress) (x : Item) → ◌≡◌ {A = Pace} (Ok (Some x), q') (advanced q) → (q.next < q.count) × (step_at q.sheet q.next q.stage ≡ Ok (x, q'.stage)) × (q'.sheet ≡ q.sheet) × (q'.count ≡ q.count) × (q'.next ≡ q.next + 1)
steps q q' x h =
    let w = went (ltb q.next q.count) (step_at q.sheet q.next q.stage) q q' x h in
    (ltb-true q.next q.count w.0, w.1, w.2, w.3, w.4)

-- one that answers none has read all
pub stops : (q q' : Progress) → ◌≡◌ {A = Pace} (Ok None, q') (advanced q) → q.count ≤ q.next
stops q q' h = ltb-false q.next q.count (stayed (ltb q.next q.count) (step_at q.sheet q.next q.stage) q q' h)

-- one that refuses has met that refusal
pub refuses : (q q' : Progress) (f : Fault) → ◌≡◌ {A = Pace} (Err f, q') (advanced q) → (q.next < q.count) × (step_at q.sheet q.next q.stage ≡ Err f)
refuses q q' f h =
    let w = refused (ltb q.next q.count) (step_at q.sheet q.next q.stage) q q' f h in
    (ltb-true q.next q.count w.0, w.1)

pub goes : (s : List ℕ) (m i : ℕ) (t u : Stage) (x : Item) (found : List Item) → i < m → step_at s i t ≡ Ok (x, u) → with found (items_from s (m - i) i t) ≡ with (found ++ x ∷ []) (items_from s (m - (i + 1)) (i + 1) u)
unfolding items_from
goes s m i t u x found l h =
    let e : m - i ≡ suc (m - (i + 1)) = omega arith in
    rw (e, h) (with_more found x (items_from s (m - (i + 1)) (i + 1) u))

pub ends_in : (s : List ℕ) (m i : ℕ) (t : Stage) (f : Fault) (found : List Item) → i < m → step_at s i t ≡ Err f → with found (items_from s (m - i) i t) ≡ Err f
unfolding items_from
ends_in s m i t f found l h =
    let e : m - i ≡ suc (m - (i + 1)) = omega arith in
    rw (e, h)

pub ends : (s : List ℕ) (m i : ℕ) (t : Stage) (found : List Item) → m ≤ i → with found (items_from s (m - i) i t) ≡ Ok (found ++ [])
unfolding items_from
ends s m i t found l = let e : m - i ≡ 0 = omega arith in rw e

-- the part of an entry that a step gives
pub step_part : (s : List ℕ) (i : ℕ) (t u : Stage) (x : Item) → step_at s i t ≡ Ok (x, u) → x.part ≡ place_at s i
step_part s i t u x h = by_entry (entry_at s i) h
  where
    by_stage : (y : Said) (o : Option Stage) → standing s i y o ≡ Ok (x, u) → x.part ≡ place_at s i
    by_stage y None e = cc
    by_stage y (Some v) e = sym (ap (λ (p : Item × Stage). p.0.part) (same (item s i y, v) (x, u) e))
      where
        same : (p q : Item × Stage) → ◌≡◌ {A = Result (Item × Stage) Fault} (Ok p) (Ok q) → p ≡ q
        same p q e = cc

    by_entry : (r : Result Said Fault) → then (λ y. standing s i y (followed t y)) r ≡ Ok (x, u) → x.part ≡ place_at s i
    by_entry (Ok y) e = by_stage y (followed t y) e
    by_entry (Err f) e = cc
