-- What an answer after a past promises.
use Rattle.std.proofs.Common.{◌≡◌, ℕ, List, [], Result, arith}
use Rattle.std.proofs.lemmas.List.Sorted.{length_permutation}
use Rattle.std.proofs.lemmas.Bool.Decides.{nat_tests}
use Rattle.fault.specs.declared.Fault.{Fault}
use Rattle.method.specs.Meaning.{Laws, Meaning, Taken}
use Rattle.method.specs.declared.verdict.Verdict.{Verdict}
use Rattle.method.proofs.Totals.{total_shuffled}
use Rattle.bench.proofs.Edits.{taken_standing}
use Rattle.past.specs.Pasts.{answer, run, sample}
use Rattle.past.specs.Promises.{OnlyWhatStandsCounts}
use Rattle.past.specs.declared.calls.Call.{Call}
use Rattle.past.proofs.Runs.{run_taken}

module _ {R X : Type 0} (m : Meaning R X) (n : ℕ) where
  -- the readings that stand are readings that the method takes
  pub sample_taken : (pages : ℕ) (cs : List (Call R)) → Taken m (sample m n pages cs)
  sample_taken pages cs = taken_standing m (run m n pages cs []) (run_taken m n pages cs [] tt)

  pub promised : Laws m → (pages : ℕ) (cs : List (Call R)) (r : Result Verdict Fault) → r ≡ answer m n pages cs → OnlyWhatStandsCounts m n pages cs r
  promised laws pages cs r e =
      record {
        refused = λ f a. grind (arith, nat_tests, e, a);
        closes = λ a l. grind (arith, nat_tests, e, a, l);
        short = λ a l. grind (arith, nat_tests, e, a, l);
        same_readings_same_verdict = λ k ds a b s.
            grind (arith, nat_tests, e, a, b, length_permutation (sample m n pages cs) (sample m n k ds) s, total_shuffled m laws (sample m n pages cs) (sample m n k ds) s (sample_taken pages cs));
      }
