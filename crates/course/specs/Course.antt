-- The course of a sheet's entries behind its plan, on a ledger.
use Rattle.std.specs.Prelude.{◌≡◌, ℕ, zero, suc, ◌+◌, ◌-◌, Bool, cond, List, [], ◌∷◌, ◌++◌, length, ℤ, pos, negsuc, Some, None, Ok, Err, Option, Result, nat_lt}
use Rattle.fault.specs.Located.{located, then}
use Rattle.fault.specs.declared.Fault.{Fault}
use Rattle.fault.specs.declared.Fault.TheVariants.{EntryOrder, NameRange, RowFull}
use Rattle.method.specs.Meaning.{Meaning}
use Rattle.rows.specs.declared.page.Page.{Page}
use Rattle.bench.specs.Calls.{named}
use Rattle.bench.specs.Ledger.{Holds, Line, is_open, line, reading}
use Rattle.entry.specs.declared.kinds.Said.{Said}
use Rattle.entry.specs.declared.kinds.Said.TheVariants.{Planned, Drum, Reading, Pair, Mark}
use Rattle.sheet.specs.Reading.{Progress, step_at}
use Rattle.sheet.specs.declared.order.Stage.{Stage}
use Rattle.course.specs.declared.entries.Work.{Work}

-- a number of a sheet as a name or a planned number; a negative one counts as 0, which is neither
abbrev pub natural : ℤ → ℕ
natural (pos n) = n
natural (negsuc n) = 0

-- a drum names the page for what follows, and opens it where it is not open
abbrev pub drum : {R : Type 0} → ℕ → ℕ → List (Line R) → Result (ℕ × List (Line R)) Fault
drum pages x ls = cond (named x) (cond (is_open x ls) (Ok (x, ls)) (cond (nat_lt (length ls) pages) (Ok (x, ls ++ line x [] ∷ [])) (Err (RowFull 0)))) (Err (NameRange 0))

-- what is booked is entered where x is named
abbrev pub booking : {R X : Type 0} → Meaning R X → ℕ → ℕ → Option R → ℕ → List (Line R) → Result (ℕ × List (Line R)) Fault
booking m n pages None x ls = Err (EntryOrder 0)
booking m n pages (Some r) x ls = then (λ ks. Ok (x, ks)) (reading m n pages x r ls)

-- the lines that are reached, and the refusal where there was one
abbrev pub Course : Type 0 → Type 0
Course R = List (Line R) × Result (Unit {0}) Fault

-- a refusal ends the course, and leaves the lines as they are
abbrev pub onward : {R A : Type 0} → List (Line R) → (A → Course R) → Result A Fault → Course R
onward ls f (Ok a) = f a
onward ls f (Err e) = (ls, Err e)

-- f tells which reading an entry books
module _ {R X : Type 0} (m : Meaning R X) (f : Said → Option R) (n pages : ℕ) where
  -- what an entry does where x is named: the name for what follows and the lines, or the refusal
  abbrev pub carried : ℕ → Said → List (Line R) → Result (ℕ × List (Line R)) Fault
  carried x (Planned p) ls = booking m n pages (f (Planned p)) x ls
  carried x (Drum z) ls = drum pages (natural z) ls
  carried x (Reading r) ls = booking m n pages (f (Reading r)) x ls
  carried x (Pair a b) ls = booking m n pages (f (Pair a b)) x ls
  carried x (Mark c) ls = booking m n pages (f (Mark c)) x ls

  -- the j entries from i on, each read and then carried out, up to the first that is refused
  unfoldable pub course_from : List ℕ → ℕ → ℕ → Stage → ℕ → List (Line R) → Course R
  course_from s zero i t x ls = (ls, Ok tt)
  course_from s (suc j) i t x ls = onward ls (λ p. onward ls (λ y. course_from s j (i + 1) p.1 y.0 y.1) (located (i + 1) (carried x p.0.says ls))) (step_at s i t)

  -- all entries that a reader still has
  abbrev pub course_of : Progress → ℕ → List (Line R) → Course R
  course_of q x ls = course_from q.sheet (q.count - q.next) q.next q.stage x ls

-- a call on pages that show the lines ls answered r: they show the lines after what x says, and the name y is the one
-- for what follows
abbrev pub Carried : {R X : Type 0} → Meaning R X → (X → Bool) → ℕ → List (Line R) → ℕ → List (Page X) → Result (Unit {0}) Fault → Result (ℕ × List (Line R)) Fault → Type 0
Carried m st n ls y qs (Ok u) x = (ks : List (Line _)) × (x ≡ Ok (y, ks)) × Holds m st n ks qs
Carried m st n ls y qs (Err f) x = (x ≡ Err f) × Holds m st n ls qs

-- work d that answered r and came to e: it keeps its bench and its row, and whatever lines its pages show, it
-- does what f says of them
abbrev pub Stepped : {B R T X : Type 0} → (B → Meaning R X) → (X → Bool) → (List (Line R) → Result (ℕ × List (Line R)) Fault) → Work B R T X → Work B R T X → Result (Unit {0}) Fault → Type 0
Stepped m st f d e r =
    (e.bench.now ≡ d.bench.now) × (e.pages.ghost_name ≡ d.pages.ghost_name) × (length e.pages.now ≡ length d.pages.now)
    × ((ls : List (Line _)) → Holds (m d.bench.now.method) st d.bench.now.n ls d.pages.now → Carried (m d.bench.now.method) st d.bench.now.n ls e.current e.pages.now r (f ls))

-- a whole course on pages ps, whatever lines they show
abbrev pub Coursed : {R X : Type 0} → Meaning R X → (X → Bool) → ℕ → (List (Line R) → Course R) → List (Page X) → List (Page X) → Result (Unit {0}) Fault → Type 0
Coursed m st n f ps qs r = (ls : List (Line _)) → Holds m st n ls ps → (r ≡ (f ls).1) × Holds m st n (f ls).0 qs
