-- How answers with a fault go together.
use Rattle.std.specs.Prelude.{ℕ, Ok, Err, Result}
use Rattle.fault.specs.declared.Fault.{Fault}
use Rattle.fault.specs.Faults.{met}

-- an answer whose fault was met at entry j
abbrev pub located : {T : Type 0} → ℕ → Result T Fault → Result T Fault
located j (Ok x) = Ok x
located j (Err f) = Err (met j f)

-- first the one answer, then, with its value, the other
abbrev pub then : {X Y : Type 0} → (X → Result Y Fault) → Result X Fault → Result Y Fault
then f (Ok x) = f x
then f (Err e) = Err e
