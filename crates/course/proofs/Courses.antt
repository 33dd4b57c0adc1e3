-- One more entry of a course.
use Rattle.std.proofs.Common.{◌≡◌, ℕ, suc, ◌+◌, ◌-◌, Bool, List, length, Some, None, Ok, Err, Option, Result, sym, ap, ◌∙◌, subst, arith}
use Rattle.entry.specs.declared.kinds.Said.{Said}
use Rattle.fault.specs.Faults.{met}
use Rattle.fault.specs.declared.Fault.{Fault}
use Rattle.method.specs.Meaning.{Meaning}
use Rattle.bench.specs.Ledger.{Holds, Line}
use Rattle.rows.specs.declared.page.Page.{Page}
use Rattle.sheet.proofs.Runs.{Pace, refuses, steps, stops}
use Rattle.sheet.specs.Reading.{Item, Progress, advanced}
use Rattle.bench.specs.declared.Bench.{Bench}
use Rattle.course.specs.Course.{Carried, Course, Stepped, carried, course_from, course_of}
use Rattle.course.specs.declared.entries.Work.{Work}

module _ {R X : Type 0} (m : Meaning R X) (b : Said → Option R) (n size : ℕ) (q q' : Progress) (x : ℕ) (ls : List (Line R)) where
  -- an entry was read and carried out
  pub goes : (e : Item) (y : ℕ) (ks : List (Line R)) → ◌≡◌ {A = Pace} (Ok (Some e), q') (advanced q) → carried m b n size x e.says ls ≡ Ok (y, ks) → course_of m b n size q x ls ≡ course_of m b n size q' y ks
  unfolding course_from
  goes e y ks h d =
      let w = steps q q' e h in
      let k : q.count - q.next ≡ suc (q.count - (q.next + 1)) = omega (arith, w.0) in
      rw (k, w.1, d, w.2, w.3, w.4)

  -- an entry was read, and carrying it out was refused
  pub denied : (e : Item) (f : Fault) → ◌≡◌ {A = Pace} (Ok (Some e), q') (advanced q) → carried m b n size x e.says ls ≡ Err f → course_of m b n size q x ls ≡ (ls, Err (met (q.next + 1) f))
  unfolding course_from
  denied e f h d =
      let w = steps q q' e h in
      let k : q.count - q.next ≡ suc (q.count - (q.next + 1)) = omega (arith, w.0) in
      rw (k, w.1, d)

  -- reading the entry was refused
  pub unread : (f : Fault) → ◌≡◌ {A = Pace} (Err f, q') (advanced q) → course_of m b n size q x ls ≡ (ls, Err f)
  unfolding course_from
  unread f h =
      let w = refuses q q' f h in
      let k : q.count - q.next ≡ suc (q.count - (q.next + 1)) = omega (arith, w.0) in
      rw (k, w.1)

  -- all entries are read
  pub ends : ◌≡◌ {A = Pace} (Ok None, q') (advanced q) → course_of m b n size q x ls ≡ (ls, Ok tt)
  unfolding course_from
  ends h =
      let w = stops q q' h in
      let k : q.count - q.next ≡ 0 = omega (arith, w) in
      rw k

-- work d on a sheet that was read to q began on the bench b, with the pages ps and at q₀: its pages show lines
-- from which the course that is left comes to what the whole course does
module _ {B R X : Type 0} (m : B → Meaning R X) (st : X → Bool) (f : Said → Option R) (b : Bench B) (ps : List (Page X)) (q₀ : Progress) where
  abbrev pub whole : List (Line R) → Course R
  whole ls = course_of (m b.method) f b.n (length ps) q₀ 0 ls

  -- the course of lines came to this answer, and the pages qs show what it left
  abbrev pub Came : List (Line R) → List (Page X) → Result (Unit {0}) Fault → Type 0
  Came ls qs r = (r ≡ (whole ls).1) × Holds (m b.method) st b.n (whole ls).0 qs

  came : (ls ks : List (Line R)) (qs : List (Page X)) (r : Result (Unit {0}) Fault) → whole ls ≡ (ks, r) → Holds (m b.method) st b.n ks qs → Came ls qs r
  came ls ks qs r e h = (sym (ap (λ (x : Course _). x.1) e), subst (λ t. Holds (m b.method) st b.n t qs) (sym (ap (λ (x : Course _). x.0) e)) h)

  module _ {T : Type 0} where
    abbrev pub Along : Work B R T X → Progress → Type 0
    Along d q =
        (d.bench.now ≡ b) × (length d.pages.now ≡ length ps)
        × ((ls : List (Line R)) → Holds (m b.method) st b.n ls ps
        → (ks : List (Line R)) × Holds (m b.method) st b.n ks d.pages.now × (whole ls ≡ course_of (m b.method) f b.n (length ps) q d.current ks))

    -- a step from there, by the bench and the row that were there first
    step : (d e : Work B R T X) (x : Said) (r : Result (Unit {0}) Fault) → d.bench.now ≡ b → length d.pages.now ≡ length ps → Stepped m st (carried (m d.bench.now.method) f d.bench.now.n (length d.pages.now) d.current x) d e r → (ks : List (Line R)) → Holds (m b.method) st b.n ks d.pages.now → Carried (m b.method) st b.n ks e.current e.pages.now r (carried (m b.method) f b.n (length ps) d.current x ks)
    step d e x r same size s ks h =
        subst (λ i. Carried (m b.method) st b.n ks e.current e.pages.now r (carried (m b.method) f b.n i d.current x ks)) size
        (subst (λ (z : Bench B). Holds (m z.method) st z.n ks d.pages.now → Carried (m z.method) st z.n ks e.current e.pages.now r (carried (m z.method) f z.n (length d.pages.now) d.current x ks)) same (s.3 ks) h)

    module _ (d : Work B R T X) (q q' : Progress) (along : Along d q) where
      pub along_more : (e : Work B R T X) (x : Item) (u : Unit {0}) → ◌≡◌ {A = Pace} (Ok (Some x), q') (advanced q) → Stepped m st (carried (m d.bench.now.method) f d.bench.now.n (length d.pages.now) d.current x.says) d e (Ok u) → Along e q'
      along_more e x u h s =
          let on : (ls : List (Line R)) → Holds (m b.method) st b.n ls ps → (ks : List (Line R)) × Holds (m b.method) st b.n ks e.pages.now × (whole ls ≡ course_of (m b.method) f b.n (length ps) q' e.current ks) =
          λ ls held.
          let w = along.2 ls held in
          let c = step d e x.says (Ok u) along.0 along.1 s w.0 w.1 in
          (c.0, c.2, w.2 ∙ goes (m b.method) f b.n (length ps) q q' d.current w.0 x e.current c.0 h c.1) in
          (s.0 ∙ along.0, s.2 ∙ along.1, on)

      pub along_denied : (e : Work B R T X) (x : Item) (g : Fault) → ◌≡◌ {A = Pace} (Ok (Some x), q') (advanced q) → Stepped m st (carried (m d.bench.now.method) f d.bench.now.n (length d.pages.now) d.current x.says) d e (Err g) → (ls : List (Line R)) → Holds (m b.method) st b.n ls ps → Came ls e.pages.now (Err (met (q.next + 1) g))
      along_denied e x g h s ls held =
          let w = along.2 ls held in
          let c = step d e x.says (Err g) along.0 along.1 s w.0 w.1 in
          came ls w.0 e.pages.now _ (w.2 ∙ denied (m b.method) f b.n (length ps) q q' d.current w.0 x g h c.0) c.1

      pub along_unread : (g : Fault) → ◌≡◌ {A = Pace} (Err g, q') (advanced q) → (ls : List (Line R)) → Holds (m b.method) st b.n ls ps → Came ls d.pages.now (Err g)
      along_unread g h ls held = let w = along.2 ls held in came ls w.0 d.pages.now (Err g) (w.2 ∙ unread (m b.method) f b.n (length ps) q q' d.current w.0 g h) w.1

      pub along_ended : ◌≡◌ {A = Pace} (Ok None, q') (advanced q) → (ls : List (Line R)) → Holds (m b.method) st b.n ls ps → Came ls d.pages.now (Ok tt)
      along_ended h ls held = let w = along.2 ls held in came ls w.0 d.pages.now (Ok tt) (w.2 ∙ ends (m b.method) f b.n (length ps) q q' d.current w.0 h) w.1
