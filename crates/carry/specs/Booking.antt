-- What the entries of a sheet under a plan of unknown deviation book, one by one.
use Rattle.std.specs.Prelude.{◌≡◌, ℕ, cond, ◌⊎◌, List, [], ◌∷◌, ◌++◌, length, ℤ, Some, None, Ok, Err, vec_items, Option, Result, ◌==◌, nat_lt}
use Rattle.std.specs.List.{position}
use Rattle.fault.specs.Located.{then}
use Rattle.fault.specs.declared.Fault.{Fault}
use Rattle.fault.specs.declared.Fault.TheVariants.{EntryOrder, NoMemory, PlanFull, ReadingNotTaken, RowFull}
use Rattle.entry.specs.declared.kinds.Said.{Said}
use Rattle.entry.specs.declared.kinds.Said.TheVariants.{Planned, Drum as Drummed, Reading, Pair, Mark}
use Rattle.variables.specs.Sums.{reading, summed, together}
use Rattle.variables.specs.declared.sums.Sums.{Sums}
use Rattle.carry.specs.Drums.{counted, drum, name_of}
use Rattle.carry.specs.declared.booked.Booked.{Booked}
use Rattle.carry.specs.declared.report.Drum.{Drum}

-- what is booked: the drums in the order of first naming, the place of the one named last, and the numbers of all readings
pub record Books : Type 0 where
  pub drums : List Drum
  pub current : ℕ
  pub total : Sums

abbrev pub view : Booked → Books
view b = record { drums = vec_items b.drums; current = b.current; total = b.tally.sums }

-- the drum of a name goes on at its place, where it has one, or is the next, of at most 64
abbrev pub called : ℕ → Books → Option ℕ → Result Books Fault
called x b (Some i) = Ok (record { drums = b.drums; current = i; total = b.total })
called x b None = cond (nat_lt (length b.drums) 64) (Ok (record { drums = b.drums ++ drum x 0 ∷ []; current = length b.drums; total = b.total })) (Err (RowFull 0))

abbrev pub drum_called : ℤ → Books → Result Books Fault
drum_called z b = then (λ x. called x b (position (λ (d : Drum). d.name == x) b.drums)) (name_of z)

-- a reading is entered on the drum named last, while fewer than n are
abbrev pub entered : ℕ → ℤ → Books → Result Books Fault
entered n r b =
    cond (reading r)
    (cond (nat_lt b.total.n n)
    (Ok (record { drums = counted b.current b.drums; current = b.current; total = together b.total (summed (r ∷ [])) }))
    (Err (PlanFull 0)))
    (Err (ReadingNotTaken 0))

-- what an entry behind the plan books; no plan, pair or mark comes there
abbrev pub carried_out : ℕ → Said → Books → Result Books Fault
carried_out n (Planned p) b = Err (EntryOrder 0)
carried_out n (Drummed z) b = drum_called z b
carried_out n (Reading r) b = entered n r b
carried_out n (Pair x y) b = Err (EntryOrder 0)
carried_out n (Mark c) b = Err (EntryOrder 0)

-- a call that found b, answered r and left c keeps the planned number, and did what x says; a refused one changed nothing
abbrev pub Done : Booked → Result (Unit {0}) Fault → Booked → Result Books Fault → Type 0
Done b (Ok u) c x = (c.n ≡ b.n) × (x ≡ Ok (view c))
Done b (Err f) c x = (c.n ≡ b.n) × (view c ≡ view b) × ((f ≡ NoMemory) ⊎ (x ≡ Err f))
