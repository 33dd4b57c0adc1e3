-- What a kind of tally keeps of lists of readings, and the method that decides by a criterion on it.
use Rattle.std.specs.Prelude.{ℕ, Bool, cond, List, [], ◌∷◌, Ok, Err, Result, nat_le}
use Rattle.fault.specs.declared.Fault.{Fault}
use Rattle.fault.specs.declared.Fault.TheVariants.{ReadingNotTaken, TallyFull}
use Rattle.method.specs.Meaning.{Meaning}
use Rattle.method.specs.declared.verdict.Verdict.{Verdict}

-- R is the readings, X the numbers of lists of readings
pub record Tallied (R X : Type 0) : Type 0 where
  -- which readings may be entered
  pub takes : R → Bool
  -- the numbers of a list of readings
  pub total : List R → X
  -- the numbers of two lists put together
  pub join : X → X → X
  -- how many readings were entered
  pub count : X → ℕ

-- what a method means that keeps these tallies, allows the numbers a, and says j of a lot
abbrev pub inspected : {R X : Type 0} → Tallied R X → (ℕ → Bool) → (X → Verdict) → Meaning R X
inspected k a j = record {
  takes = k.takes;
  allows = a;
  total = k.total;
  join = k.join;
  count = k.count;
  verdict = j;
}

-- the tally of one reading, refused where the reading is not taken
abbrev pub lone : {R X : Type 0} → Tallied R X → R → Result X Fault
lone k r = cond (k.takes r) (Ok (k.total (r ∷ []))) (Err (ReadingNotTaken 0))

-- two tallies as one, refused past 50 readings
abbrev pub pooled : {R X : Type 0} → Tallied R X → X → X → Result X Fault
pooled k x y = cond (nat_le (k.count (k.join x y)) 50) (Ok (k.join x y)) (Err (TallyFull 0))

-- a tally with one more reading, refused where the reading is not taken
abbrev pub noted : {R X : Type 0} → Tallied R X → X → R → Result X Fault
noted k x r = cond (k.takes r) (pooled k x (k.total (r ∷ []))) (Err (ReadingNotTaken 0))
