-- What entering a reading and joining two tallies are answered.
use Rattle.std.specs.Prelude.{cond, [], ◌∷◌, Ok, Err, Result, nat_le}
use Rattle.fault.specs.declared.Fault.{Fault}
use Rattle.fault.specs.declared.Fault.TheVariants.{ReadingNotTaken, TallyFull}
use Rattle.method.specs.Meaning.{Meaning}

-- an answer told by the numbers of what it holds
abbrev pub given : {T X : Type 0} → (T → X) → Result T Fault → Result X Fault
given of (Ok t) = Ok (of t)
given of (Err e) = Err e

-- two totals joined, refused where the count would pass 50
abbrev pub joined : {R X : Type 0} → Meaning R X → X → X → Result X Fault
joined m x y = cond (nat_le (m.count (m.join x y)) 50) (Ok (m.join x y)) (Err (TallyFull 0))

-- a total with one more reading, refused where the method does not take the reading
abbrev pub entered : {R X : Type 0} → Meaning R X → X → R → Result X Fault
entered m x r = cond (m.takes r) (joined m x (m.total (r ∷ []))) (Err (ReadingNotTaken 0))
