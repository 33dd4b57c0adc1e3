-- What each call of a bench does on any pages whatever: st says of numbers whether some tally gives them.
use Rattle.std.specs.Prelude.{ℕ, Bool, cond, ◌&&◌, List, [], length, Ok, Err, Result, ◌==◌, nat_le, nat_lt, slice_index_or, slice_set}
use Rattle.fault.specs.Located.{then}
use Rattle.fault.specs.declared.Fault.{Fault}
use Rattle.fault.specs.declared.Fault.TheVariants.{NameNotOpen, NameOpen, NameRange, PlanFull, PlannedNumber, PouredOntoItself, PouredPastPlan, ReadingNotTaken, ReadingsMissing, RowFull, RowSize}
use Rattle.method.specs.Answers.{entered}
use Rattle.method.specs.Meaning.{Meaning}
use Rattle.method.specs.declared.verdict.Verdict.{Verdict}
use Rattle.rows.specs.Checks.{checked}
use Rattle.rows.specs.Joining.{sum_of}
use Rattle.rows.specs.Pages.{moved_up, page, place}
use Rattle.rows.specs.declared.page.Page.{Page}

-- a name is 1 to 255; 0 stands on blank pages
abbrev pub named : ℕ → Bool
named x = nat_le 1 x && nat_le x 255

abbrev pub blank_page : {R X : Type 0} → Meaning R X → Page X
blank_page m = page 0 (m.total [])

-- the numbers on the page at a place
abbrev pub at : {R X : Type 0} → Meaning R X → List (Page X) → ℕ → X
at m ps i = (slice_index_or ps i (blank_page m)).numbers

-- whether a bench may be set up: for n readings, and on so many pages
abbrev pub admitted : {R X : Type 0} → Meaning R X → ℕ → ℕ → Result (Unit {0}) Fault
admitted m n pages = cond (nat_le 1 n && (nat_le n 50 && m.allows n)) (cond (nat_le 1 pages && nat_le pages 64) (Ok tt) (Err (RowSize 0))) (Err (PlannedNumber 0))

-- the page at a place taken out, and a blank one behind
abbrev pub struck_at : {R X : Type 0} → Meaning R X → ℕ → List (Page X) → List (Page X)
struck_at m i ps = moved_up i (blank_page m) ps

-- the pages after a call that is granted, or the refusal
module _ {R X : Type 0} (m : Meaning R X) (st : X → Bool) (n : ℕ) where
  -- the name is put with a blank tally on the first blank page
  abbrev pub opened : ℕ → List (Page X) → Result (List (Page X)) Fault
  opened x ps =
      then (λ left. cond (named x) (cond (nat_lt (place x ps) (length ps)) (Err (NameOpen 0)) (cond (nat_lt (place 0 ps) (length ps)) (Ok (slice_set ps (place 0 ps) (page x (m.total [])))) (Err (RowFull 0)))) (Err (NameRange 0)))
      (checked m st n ps)

  -- the reading is entered on the name's page
  abbrev pub read : ℕ → R → List (Page X) → Result (List (Page X)) Fault
  read x r ps =
      then
      (λ left.
      cond (named x)
      (cond (nat_lt (place x ps) (length ps))
      (cond (m.takes r) (cond (left == 0) (Err (PlanFull 0)) (then (λ z. Ok (slice_set ps (place x ps) (page x z))) (entered m (at m ps (place x ps)) r))) (Err (ReadingNotTaken 0)))
      (Err (NameNotOpen 0)))
      (Err (NameRange 0)))
      (checked m st n ps)

  abbrev pub struck : ℕ → List (Page X) → Result (List (Page X)) Fault
  struck x ps = then (λ left. cond (named x) (cond (nat_lt (place x ps) (length ps)) (Ok (struck_at m (place x ps) ps)) (Err (NameNotOpen 0))) (Err (NameRange 0))) (checked m st n ps)

  -- the source's tally is joined to the goal's, and the source's page is taken out
  abbrev pub poured : ℕ → ℕ → List (Page X) → Result (List (Page X)) Fault
  poured s g ps =
      then
      (λ left.
      cond (named s && named g)
      (cond (nat_lt (place s ps) (length ps) && nat_lt (place g ps) (length ps))
      (cond (s == g) (Err (PouredOntoItself 0))
      (cond (nat_le (m.count (m.join (at m ps (place g ps)) (at m ps (place s ps)))) n)
      (Ok (struck_at m (place s ps) (slice_set ps (place g ps) (page g (m.join (at m ps (place g ps)) (at m ps (place s ps)))))))
      (Err (PouredPastPlan 0))))
      (Err (NameNotOpen 0)))
      (Err (NameRange 0)))
      (checked m st n ps)

  -- all tallies joined, where no reading is missing
  abbrev pub closed : List (Page X) → Result X Fault
  closed ps = then (λ left. cond (left == 0) (sum_of m st (m.total []) ps) (Err ReadingsMissing)) (checked m st n ps)

  -- what is said of the lot, where closing gives one
  abbrev pub judged : List (Page X) → Result Verdict Fault
  judged ps = then (λ x. Ok (m.verdict x)) (closed ps)

-- what a call is answered, and what there is after it: a refused one changes nothing
abbrev pub told : {A E : Type 0} → Result A E → Result (Unit {0}) E
told (Ok a) = Ok tt
told (Err e) = Err e

abbrev pub after : {A E : Type 0} → Result A E → A → A
after (Ok b) a = b
after (Err e) a = a
