-- Which entry may follow, by how far a sheet has come.
use Rattle.std.specs.Prelude.{Some, None, Option}
use Rattle.entry.specs.declared.kinds.Plan.{Plan}
use Rattle.entry.specs.declared.kinds.Plan.TheVariants.{Known, Unknown, Window, Marks, Gauged, Mean, Paired}
use Rattle.entry.specs.declared.kinds.Said.{Said}
use Rattle.entry.specs.declared.kinds.Said.TheVariants.{Planned, Drum, Reading, Pair, Mark}
use Rattle.sheet.specs.declared.order.Kind.{Kind}
use Rattle.sheet.specs.declared.order.Kind.TheVariants.{OfReadings, OfPairs, OfMarks}
use Rattle.sheet.specs.declared.order.Stage.{Stage}
use Rattle.sheet.specs.declared.order.Stage.TheVariants.{BeforePlan, BeforeDrums, AmongDrums}

-- what a plan is on: readings under K, U, W, G and T, pairs under V, marks under A
abbrev pub kind_of : Plan → Kind
kind_of (Known n l s k) = OfReadings
kind_of (Unknown n l k) = OfReadings
kind_of (Window n l u k) = OfReadings
kind_of (Marks n a) = OfMarks
kind_of (Gauged n l h a) = OfReadings
kind_of (Mean n m) = OfReadings
kind_of (Paired n) = OfPairs

abbrev pub on_reading : Kind → Option Stage
on_reading OfReadings = Some (AmongDrums OfReadings)
on_reading OfPairs = None
on_reading OfMarks = None

abbrev pub on_pair : Kind → Option Stage
on_pair OfReadings = None
on_pair OfPairs = Some (AmongDrums OfPairs)
on_pair OfMarks = None

abbrev pub on_mark : Kind → Option Stage
on_mark OfReadings = None
on_mark OfPairs = None
on_mark OfMarks = Some (AmongDrums OfMarks)

-- the stage behind an entry; none where the entry may not stand
abbrev pub followed : Stage → Said → Option Stage
followed BeforePlan (Planned p) = Some (BeforeDrums (kind_of p))
followed BeforePlan (Drum a) = None
followed BeforePlan (Reading a) = None
followed BeforePlan (Pair a b) = None
followed BeforePlan (Mark b) = None
followed (BeforeDrums k) (Planned p) = None
followed (BeforeDrums k) (Drum a) = Some (AmongDrums k)
followed (BeforeDrums k) (Reading a) = None
followed (BeforeDrums k) (Pair a b) = None
followed (BeforeDrums k) (Mark b) = None
followed (AmongDrums k) (Planned p) = None
followed (AmongDrums k) (Drum a) = Some (AmongDrums k)
followed (AmongDrums k) (Reading a) = on_reading k
followed (AmongDrums k) (Pair a b) = on_pair k
followed (AmongDrums k) (Mark b) = on_mark k
