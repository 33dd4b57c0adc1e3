-- A bench's past on its ledger: the lines after any calls, and the readings that then stand.
use Rattle.std.specs.Prelude.{ℕ, Bool, false, cond, not, List, [], ◌∷◌, length, Ok, Err, Result, ◌==◌, nat_lt}
use Rattle.fault.specs.Located.{then}
use Rattle.fault.specs.declared.Fault.{Fault}
use Rattle.fault.specs.declared.Fault.TheVariants.{ReadingsMissing}
use Rattle.method.specs.Meaning.{Meaning}
use Rattle.method.specs.declared.verdict.Verdict.{Verdict}
use Rattle.bench.specs.Calls.{admitted, after}
use Rattle.bench.specs.Ledger.{Line, closing, opening, pouring, reading, standing, striking}
use Rattle.past.specs.declared.calls.Call.{Call}
use Rattle.past.specs.declared.calls.Call.TheVariants.{Open, Read, Strike, Pour, Close}

module _ {R X : Type 0} (m : Meaning R X) (n pages : ℕ) where
  -- the lines after a call that is granted, or the refusal
  abbrev pub call : Call R → List (Line R) → Result (List (Line R)) Fault
  call (Open x) ls = opening m n pages x ls
  call (Read x r) ls = reading m n pages x r ls
  call (Strike x) ls = striking m n pages x ls
  call (Pour s g) ls = pouring m n pages s g ls
  call Close ls = closing m n pages ls

  -- a granted closing ends the past
  abbrev pub ends : Call R → List (Line R) → Bool
  ends (Open x) ls = false
  ends (Read x r) ls = false
  ends (Strike x) ls = false
  ends (Pour s g) ls = false
  ends Close ls = not (nat_lt (length (standing ls)) n)

  -- the lines after all calls in order; a refused call changes nothing
  abbrev pub run : List (Call R) → List (Line R) → List (Line R)
  run [] ls = ls
  run (c ∷ cs) ls = cond (ends c ls) ls (run cs (after (call c ls) ls))

  -- the readings that stand after the calls of a bench that was set up
  abbrev pub sample : List (Call R) → List R
  sample cs = standing (run cs [])

  -- what is said of the lot, where the planned number of readings stands
  abbrev pub judged : List (Line R) → Result Verdict Fault
  judged ls = cond (length (standing ls) == n) (Ok (m.verdict (m.total (standing ls)))) (Err ReadingsMissing)

  -- setting up, the calls, then closing and judging
  abbrev pub answer : List (Call R) → Result Verdict Fault
  answer cs = then (λ _. judged (run cs [])) (admitted m n pages)
