use Rattle.std.proofs.Common.{◌≡◌, List, [], length, drop}
use Rattle.bench.specs.Ledger.{Holds, Line}
use Rattle.past.specs.Pasts.{run}
use Rattle.past.proofs.plan.Plan.replay_calls.Given as goal

abbrev pub invariant-loop-call : goal.invariant-loop-call
invariant-loop-call g l =
    let m = g.M.Method.meaning l.bench.method in
    let n = l.bench.n in
    (l.bench ≡ l.initial.bench)
    × ((ls : List (Line _)) × Holds m g.M.Method.stands n ls l.pages × (run m n (length l.pages) l.calls [] ≡ run m n (length l.pages) (drop l.call-index l.calls) ls))
