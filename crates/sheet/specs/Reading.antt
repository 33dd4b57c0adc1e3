-- Reading a sheet, entry by entry and as a whole.
use Rattle.std.specs.Prelude.{ℕ, ◌+◌, cond, List, Some, None, Ok, Err, Option, Result, nat_lt}
use Rattle.fault.specs.Located.{located, then}
use Rattle.fault.specs.declared.Fault.{Fault}
use Rattle.fault.specs.declared.Fault.TheVariants.{EntryPlace, EntryOrder}
use Rattle.entry.specs.Entries.{Place, part_of, said_by}
use Rattle.entry.specs.Forms.{said_of}
use Rattle.entry.specs.declared.kinds.Entry.{Entry}
use Rattle.entry.specs.declared.kinds.Said.{Said}
use Rattle.sheet.specs.Order.{followed}
use Rattle.sheet.specs.Table.{offset_at, part_at, placed, table_of}
use Rattle.sheet.specs.declared.order.Stage.{Stage}
use Rattle.sheet.specs.declared.order.Stage.TheVariants.{BeforePlan}
use Rattle.sheet.specs.declared.reader.Reader.{Reader}

-- an entry by its part of the sheet and what it says
pub record Item : Type 0 where
  pub part : Place
  pub says : Said

abbrev pub item_of : Entry → Item
item_of e = record { part = part_of e; says = said_by e }

-- the part of a sheet that entry i is, counted from 0
abbrev pub place_at : List ℕ → ℕ → Place
place_at s i = record { bytes = part_at s i; offset = offset_at s i; place = i + 1 }

abbrev pub item : List ℕ → ℕ → Said → Item
item s i x = record { part = place_at s i; says = x }

-- what entry i says, or why it is refused
abbrev pub entry_at : List ℕ → ℕ → Result Said Fault
entry_at s i = cond (placed s i) (located (i + 1) (said_of (part_at s i))) (Err (EntryPlace (i + 1)))

-- an entry that may stand here, with the stage behind it
abbrev pub standing : List ℕ → ℕ → Said → Option Stage → Result (Item × Stage) Fault
standing s i x None = Err (EntryOrder (i + 1))
standing s i x (Some t) = Ok (item s i x, t)

abbrev pub step_at : List ℕ → ℕ → Stage → Result (Item × Stage) Fault
step_at s i t = then (λ x. standing s i x (followed t x)) (entry_at s i)

abbrev pub step_seen : Result (Entry × Stage) Fault → Result (Item × Stage) Fault
step_seen (Ok p) = Ok (item_of p.0, p.1)
step_seen (Err f) = Err f

-- a reader by its sheet, the number of entries, the next one and the stage before it
pub record Progress : Type 0 where
  pub sheet : List ℕ
  pub count : ℕ
  pub next : ℕ
  pub stage : Stage

abbrev pub progress : Reader → Progress
progress q = record { sheet = q.sheet.now; count = q.count; next = q.next; stage = q.stage }

abbrev pub begun : Result Reader Fault → Result Progress Fault
begun (Ok q) = Ok (progress q)
begun (Err f) = Err f

-- a reader before the first entry of a sheet, or why the sheet's table is refused
abbrev pub opened : List ℕ → Result Progress Fault
opened s = then (λ m. Ok (record { sheet = s; count = m; next = 0; stage = BeforePlan })) (table_of s)

abbrev pub seen : Result (Option Entry) Fault → Result (Option Item) Fault
seen (Ok None) = Ok None
seen (Ok (Some e)) = Ok (Some (item_of e))
seen (Err f) = Err f

abbrev pub moved : Progress → Result (Item × Stage) Fault → Result (Option Item) Fault × Progress
moved q (Ok p) = (Ok (Some p.0), record { sheet = q.sheet; count = q.count; next = q.next + 1; stage = p.1 })
moved q (Err f) = (Err f, q)

-- what a reader answers, and where it then is
abbrev pub advanced : Progress → Result (Option Item) Fault × Progress
advanced q = cond (nat_lt q.next q.count) (moved q (step_at q.sheet q.next q.stage)) (Ok None, q)
