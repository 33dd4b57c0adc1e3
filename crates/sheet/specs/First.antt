-- The plan that a sheet begins with.
use Rattle.std.specs.Prelude.{◌≡◌, Some, None, Ok, Err, Option, Result}
use Rattle.fault.specs.Located.{then}
use Rattle.fault.specs.declared.Fault.{Fault}
use Rattle.fault.specs.declared.Fault.TheVariants.{EntryOrder}
use Rattle.entry.specs.declared.kinds.Plan.{Plan}
use Rattle.entry.specs.declared.kinds.Said.{Said}
use Rattle.entry.specs.declared.kinds.Said.TheVariants.{Planned, Drum, Reading, Pair, Mark}
use Rattle.sheet.specs.Reading.{Item, Progress, advanced}

-- the plan that an entry is
abbrev pub plan_in : Said → Result Plan Fault
plan_in (Planned p) = Ok p
plan_in (Drum a) = Err (EntryOrder 1)
plan_in (Reading a) = Err (EntryOrder 1)
plan_in (Pair a b) = Err (EntryOrder 1)
plan_in (Mark b) = Err (EntryOrder 1)

abbrev pub plan_of : Result (Option Item) Fault → Result Plan Fault
plan_of (Ok None) = Err (EntryOrder 1)
plan_of (Ok (Some x)) = plan_in x.says
plan_of (Err f) = Err f

-- the plan that a sheet begins with, and the reader behind it
abbrev pub first_of : Progress → Result (Plan × Progress) Fault
first_of q = then (λ p. Ok (p, (advanced q).1)) (plan_of (advanced q).0)

-- a call that answered r and left a reader at q found what x says
abbrev pub Began : Result Plan Fault → Progress → Result (Plan × Progress) Fault → Type 0
Began (Ok p) q x = x ≡ Ok (p, q)
Began (Err f) q x = x ≡ Err f
