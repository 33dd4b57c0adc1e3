-- What a sheet that is carried out comes to.
use Rattle.std.specs.Prelude.{◌≡◌, ℕ, zero, suc, ◌+◌, ◌-◌, cond, ◌&&◌, List, [], ℤ, Ok, Err, vec_items, Result, nat_le, nat_lt, unsigned_abs}
use Rattle.fault.specs.Located.{located, then}
use Rattle.fault.specs.declared.Fault.{Fault}
use Rattle.fault.specs.declared.Fault.TheVariants.{PlannedNumber, ReadingsMissing}
use Rattle.method.specs.Plans.{planned}
use Rattle.method.specs.declared.verdict.Verdict.{Verdict}
use Rattle.variables.specs.Sums.{none}
use Rattle.criteria.specs.Unknown.{judged, newly}
use Rattle.entry.specs.declared.kinds.Plan.{Plan}
use Rattle.entry.specs.declared.kinds.Plan.TheVariants.{Known, Unknown, Window, Marks, Gauged, Mean, Paired}
use Rattle.sheet.specs.First.{first_of}
use Rattle.sheet.specs.Reading.{Progress, opened, step_at}
use Rattle.sheet.specs.Sheets.{sheet_of}
use Rattle.sheet.specs.declared.order.Stage.{Stage}
use Rattle.carry.specs.Booking.{Books, carried_out, view}
use Rattle.carry.specs.declared.booked.Booked.{Booked}
use Rattle.carry.specs.declared.report.Drum.{Drum}
use Rattle.carry.specs.declared.report.Outcome.{Outcome}
use Rattle.carry.specs.declared.report.Outcome.TheVariants.{Judged, NotYet}
use Rattle.carry.specs.declared.report.Report.{Report}

-- a judged lot: the planned number, the drums, and the verdict
pub record Lot : Type 0 where
  pub n : ℕ
  pub drums : List Drum
  pub verdict : Verdict

abbrev pub lot_of : Report → Lot
lot_of r = record { n = r.n; drums = vec_items r.drums; verdict = r.verdict }

abbrev pub reported : Result Report Fault → Result Lot Fault
reported (Ok r) = Ok (lot_of r)
reported (Err f) = Err f

-- a lot is judged, or its plan is not judged yet
pub data Came : Type 0 where
  judged_lot : Lot → Came
  not_yet : Plan → Came

abbrev pub came_to : Outcome → Came
came_to (Judged r) = judged_lot (lot_of r)
came_to (NotYet p) = not_yet p

abbrev pub came : Result Outcome Fault → Result Came Fault
came (Ok o) = Ok (came_to o)
came (Err f) = Err f

-- the planned number under a plan of unknown deviation: 2 to 50
abbrev pub planned_number : ℤ → Result ℕ Fault
planned_number n = cond (planned n) (cond (nat_le 2 (unsigned_abs n) && nat_le (unsigned_abs n) 50) (Ok (unsigned_abs n)) (Err (PlannedNumber 0))) (Err (PlannedNumber 0))

-- nothing is booked yet
abbrev pub blank : Books
blank = record { drums = []; current = 0; total = none }

-- books that are begun for a planned number, or refused
abbrev pub Begun : Result Booked Fault → Result ℕ Fault → Type 0
Begun (Ok b) x = (x ≡ Ok b.n) × (view b ≡ blank)
Begun (Err f) x = x ≡ Err f

-- the books behind the j entries from i on, each read and then carried out, up to the first that is refused
unfoldable pub books_from : ℕ → List ℕ → ℕ → ℕ → Stage → Books → Result Books Fault
books_from n s zero i t b = Ok b
books_from n s (suc j) i t b = then (λ p. then (λ c. books_from n s j (i + 1) p.1 c) (located (i + 1) (carried_out n p.0.says b))) (step_at s i t)

-- the books behind all entries that a reader still has
abbrev pub books_of : ℕ → Progress → Books → Result Books Fault
books_of n q b = books_from n q.sheet (q.count - q.next) q.next q.stage b

-- the books that a call which answered r left
abbrev pub viewed : Result (Unit {0}) Fault → Booked → Result Books Fault
viewed (Ok u) b = Ok (view b)
viewed (Err f) b = Err f

-- the lot is judged when the planned number of readings stands
abbrev pub closed : ℕ → ℤ → ℤ → Books → Result Lot Fault
closed n l k b = cond (nat_lt b.total.n n) (Err ReadingsMissing) (Ok (record { n = n; drums = b.drums; verdict = judged l k b.total }))

-- a lot under a plan of unknown deviation, whose refusals belong to entry 1
abbrev pub lot_under : ℤ → ℤ → ℤ → Progress → Result Lot Fault
lot_under n l k q = then (λ _. then (λ m. then (closed m l k) (books_of m q blank)) (located 1 (planned_number n))) (located 1 (newly l k))

-- a plan that is not judged yet: its sheet is read alone
abbrev pub other : List ℕ → Plan → Result Came Fault
other s p = then (λ _. Ok (not_yet p)) (sheet_of s)

-- what follows the plan of a sheet
abbrev pub under_plan : List ℕ → Plan → Progress → Result Came Fault
under_plan s (Known n l d k) q = other s (Known n l d k)
under_plan s (Unknown n l k) q = then (λ r. Ok (judged_lot r)) (lot_under n l k q)
under_plan s (Window n l u k) q = other s (Window n l u k)
under_plan s (Marks n a) q = other s (Marks n a)
under_plan s (Gauged n l h a) q = other s (Gauged n l h a)
under_plan s (Mean n c) q = other s (Mean n c)
under_plan s (Paired n) q = other s (Paired n)

-- what a sheet comes to, or why it is refused
abbrev pub outcome_of : List ℕ → Result Came Fault
outcome_of s = then (λ q. then (λ p. under_plan s p.0 p.1) (first_of q)) (opened s)
