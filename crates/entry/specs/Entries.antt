-- What an entry says and which part of the sheet it is.
use Rattle.std.specs.Prelude.{ℕ, List, ℤ}
use Rattle.entry.specs.declared.kinds.Part.{Part}
use Rattle.entry.specs.declared.kinds.Plan.{Plan}
use Rattle.entry.specs.declared.kinds.Plan.TheVariants.{Known, Unknown, Window, Marks, Gauged, Mean, Paired}
use Rattle.entry.specs.declared.kinds.Said.{Said}
use Rattle.entry.specs.declared.kinds.Said.TheVariants.{Planned, Drum, Reading, Pair, Mark}
use Rattle.entry.specs.declared.kinds.Entry.{Entry}
use Rattle.entry.specs.declared.kinds.Entry.TheVariants.{Planned as PlanEntry, Drum as DrumEntry, Reading as ReadingEntry, Pair as PairEntry, Mark as MarkEntry}

-- the letter of a plan, as its ASCII code
abbrev pub letter_of : Plan → ℕ
letter_of (Known n l s k) = 75
letter_of (Unknown n l k) = 85
letter_of (Window n l u k) = 87
letter_of (Marks n a) = 65
letter_of (Gauged n l h a) = 71
letter_of (Mean n m) = 84
letter_of (Paired n) = 86

-- the planned number of a plan, as it stands on the sheet
abbrev pub planned_of : Plan → ℤ
planned_of (Known n l s k) = n
planned_of (Unknown n l k) = n
planned_of (Window n l u k) = n
planned_of (Marks n a) = n
planned_of (Gauged n l h a) = n
planned_of (Mean n m) = n
planned_of (Paired n) = n

-- a part of a sheet by what it holds, where it begins and which entry it is
pub record Place : Type 0 where
  pub bytes : List ℕ
  pub offset : ℕ
  pub place : ℕ

abbrev pub shown : Part → Place
shown p = record { bytes = p.bytes.now; offset = p.offset; place = p.place }

abbrev pub said_by : Entry → Said
said_by (PlanEntry q p) = Planned p
said_by (DrumEntry q a) = Drum a
said_by (ReadingEntry q a) = Reading a
said_by (PairEntry q a b) = Pair a b
said_by (MarkEntry q b) = Mark b

abbrev pub part_of : Entry → Place
part_of (PlanEntry q p) = shown q
part_of (DrumEntry q a) = shown q
part_of (ReadingEntry q a) = shown q
part_of (PairEntry q a b) = shown q
part_of (MarkEntry q b) = shown q
