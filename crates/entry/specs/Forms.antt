-- The forms of entries: a letter, directly followed by its numbers.
use Rattle.std.specs.Prelude.{ℕ, Bool, true, false, cond, List, length, ℤ, pos, Ok, Err, Result, ◌==◌, slice_index, slice_index_or}
use Rattle.std.specs.List.{between}
use Rattle.fault.specs.Located.{then}
use Rattle.fault.specs.declared.Fault.{Fault}
use Rattle.fault.specs.declared.Fault.TheVariants.{EntryForm}
use Rattle.entry.specs.declared.kinds.Plan.{Plan}
use Rattle.entry.specs.declared.kinds.Plan.TheVariants.{Known, Unknown, Window, Marks, Gauged, Mean, Paired}
use Rattle.entry.specs.declared.kinds.Said.{Said}
use Rattle.entry.specs.declared.kinds.Said.TheVariants.{Planned, Drum, Reading, Pair, Mark}
use Rattle.entry.specs.Numbers.{numbers_of}

-- the i-th of some numbers
abbrev pub nth : List ℤ → ℕ → ℤ
nth xs i = slice_index_or xs i (pos 0)

-- the plan of the letter c with the text t behind it: K, U, W, A, G, T or V and its numbers
abbrev pub plan_of : ℕ → List ℕ → Result Plan Fault
plan_of c t =
    cond (c == 75) (then (λ xs. Ok (Known (nth xs 0) (nth xs 1) (nth xs 2) (nth xs 3))) (numbers_of 4 t))
    (cond (c == 85) (then (λ xs. Ok (Unknown (nth xs 0) (nth xs 1) (nth xs 2))) (numbers_of 3 t))
    (cond (c == 87) (then (λ xs. Ok (Window (nth xs 0) (nth xs 1) (nth xs 2) (nth xs 3))) (numbers_of 4 t))
    (cond (c == 65) (then (λ xs. Ok (Marks (nth xs 0) (nth xs 1))) (numbers_of 2 t))
    (cond (c == 71) (then (λ xs. Ok (Gauged (nth xs 0) (nth xs 1) (nth xs 2) (nth xs 3))) (numbers_of 4 t))
    (cond (c == 84) (then (λ xs. Ok (Mean (nth xs 0) (nth xs 1))) (numbers_of 2 t))
    (cond (c == 86) (then (λ xs. Ok (Paired (nth xs 0))) (numbers_of 1 t)) (Err (EntryForm 0))))))))

-- a mark is + where the unit conforms and - where it does not
abbrev pub mark_of : List ℕ → Result Bool Fault
mark_of t = cond (length t == 1) (cond (slice_index t 0 == 43) (Ok true) (cond (slice_index t 0 == 45) (Ok false) (Err (EntryForm 0)))) (Err (EntryForm 0))

-- what the letter c with the text t behind it says: D, R, P, M, or a plan
abbrev pub form_of : ℕ → List ℕ → Result Said Fault
form_of c t =
    cond (c == 68) (then (λ xs. Ok (Drum (nth xs 0))) (numbers_of 1 t))
    (cond (c == 82) (then (λ xs. Ok (Reading (nth xs 0))) (numbers_of 1 t))
    (cond (c == 80) (then (λ xs. Ok (Pair (nth xs 0) (nth xs 1))) (numbers_of 2 t))
    (cond (c == 77) (then (λ b. Ok (Mark b)) (mark_of t)) (then (λ p. Ok (Planned p)) (plan_of c t)))))

-- what the text of an entry says, or that it has no form
abbrev pub said_of : List ℕ → Result Said Fault
said_of bs = form_of (slice_index bs 0) (between 1 (length bs) bs)
