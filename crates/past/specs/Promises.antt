-- What holds after every past of a bench, whatever was called.
use Rattle.std.specs.Prelude.{◌≡◌, ℕ, Bool, List, [], length, Ok, Err, Result, ◌≢◌}
use Rattle.std.specs.List.Sorted.{IsPermutation}
use Rattle.fault.specs.declared.Fault.{Fault}
use Rattle.fault.specs.declared.Fault.TheVariants.{ReadingsMissing}
use Rattle.method.specs.Meaning.{Meaning}
use Rattle.method.specs.declared.verdict.Verdict.{Verdict}
use Rattle.rows.specs.declared.page.Page.{Page}
use Rattle.bench.specs.Calls.{admitted}
use Rattle.bench.specs.Ledger.{Holds}
use Rattle.past.specs.Pasts.{answer, run, sample}
use Rattle.past.specs.declared.calls.Call.{Call}

-- the answer r after the calls cs on a row of so many pages: only the readings that stand count
pub record OnlyWhatStandsCounts {R X : Type 0} (m : Meaning R X) (n pages : ℕ) (cs : List (Call R)) (r : Result Verdict Fault) : Type 0 where
  -- refused as setting up is refused
  pub refused : (f : Fault) → admitted m n pages ≡ Err f → r ≡ Err f
  -- closing is granted where the planned number of readings stands, and the verdict is the method's of their total
  pub closes : admitted m n pages ≡ Ok tt → length (sample m n pages cs) ≡ n → r ≡ Ok (m.verdict (m.total (sample m n pages cs)))
  -- and not otherwise
  pub short : admitted m n pages ≡ Ok tt → (length (sample m n pages cs) ≢ n) → r ≡ Err ReadingsMissing
  -- any other past, on a row of any size, after which the same readings stand, repeats counted, is answered the same
  pub same_readings_same_verdict : (k : ℕ) (ds : List (Call R)) → admitted m n pages ≡ Ok tt → admitted m n k ≡ Ok tt → IsPermutation (sample m n pages cs) (sample m n k ds) → r ≡ answer m n k ds

-- what holds where something was granted, and what where it was refused
abbrev pub By : {A : Type 0} → Result A Fault → Type 0 → Type 0 → Type 0
By (Ok a) P Q = P
By (Err f) P Q = Q

-- the pages qs afterwards show the ledger's lines; where setting up was refused they are as they were, ps
abbrev pub Left : {R X : Type 0} → Meaning R X → (X → Bool) → ℕ → List (Call R) → List (Page X) → List (Page X) → Type 0
Left m st n cs ps qs = By (admitted m n (length ps)) (Holds m st n (run m n (length ps) cs []) qs) (qs ≡ ps)
