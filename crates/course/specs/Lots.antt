-- What a lot comes to: a bench is set up for its plan, then come the entries behind the plan, then the verdict.
use Rattle.std.specs.Prelude.{◌≡◌, ℕ, Bool, List, [], length, ℤ, Ok, Err, Option, Result}
use Rattle.fault.specs.Located.{located, then}
use Rattle.fault.specs.declared.Fault.{Fault}
use Rattle.method.specs.Meaning.{Meaning}
use Rattle.method.specs.declared.verdict.Verdict.{Verdict}
use Rattle.rows.specs.declared.page.Page.{Page}
use Rattle.bench.specs.Calls.{admitted}
use Rattle.bench.specs.Ledger.{Holds, judging}
use Rattle.entry.specs.declared.kinds.Said.{Said}
use Rattle.sheet.specs.Reading.{Progress}
use Rattle.course.specs.Course.{Course, course_of, natural}

-- whether a bench is set up on so many pages; a refusal belongs to entry 1
abbrev pub ready : {R X : Type 0} → Meaning R X → ℕ → ℤ → Result (Unit {0}) Fault
ready m size n = located 1 (admitted m (natural n) size)

-- f tells which reading an entry books
module _ {R X : Type 0} (m : Meaning R X) (f : Said → Option R) where
  -- the entries behind the plan, from an empty ledger on
  abbrev pub under : ℕ → ℕ → Progress → Course R
  under size n q = course_of m f n size q 0 []

  abbrev pub verdict_after : ℕ → ℕ → Progress → Result Verdict Fault
  verdict_after size n q = then (λ _. judging m n (under size n q).0) (under size n q).1

  -- what the lot comes to
  abbrev pub lot_under : ℕ → ℤ → Progress → Result Verdict Fault
  lot_under size n q = then (λ _. verdict_after size (natural n) q) (ready m size n)

  -- the pages qs afterwards, where they were ps: they show the ledger's lines where a bench was set up, refused or not
  -- what came then, and else are as they were
  abbrev pub Shown : (X → Bool) → ℕ → ℤ → Progress → Result (Unit {0}) Fault → List (Page X) → List (Page X) → Type 0
  Shown st size n q (Ok _) ps qs = Holds m st (natural n) (under size (natural n) q).0 qs
  Shown st size n q (Err e) ps qs = qs ≡ ps

  abbrev pub LeftUnder : (X → Bool) → ℤ → Progress → List (Page X) → List (Page X) → Type 0
  LeftUnder st n q ps qs = Shown st (length ps) n q (ready m (length ps) n) ps qs

-- the same for a method that was made from a plan's constants, or refused; that refusal belongs to entry 1 too
module _ {R X : Type 0} (p : Result (Meaning R X) Fault) (f : Said → Option R) where
  abbrev pub lot_of : ℕ → ℤ → Progress → Result Verdict Fault
  lot_of size n q = then (λ m. lot_under m f size n q) (located 1 p)

abbrev pub LeftOf : {R X : Type 0} → Result (Meaning R X) Fault → (Said → Option R) → (X → Bool) → ℤ → Progress → List (Page X) → List (Page X) → Type 0
LeftOf (Ok m) f st n q ps qs = LeftUnder m f st n q ps qs
LeftOf (Err e) f st n q ps qs = qs ≡ ps
