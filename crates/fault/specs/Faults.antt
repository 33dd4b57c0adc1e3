-- What a fault tells: its number, its layer and its entry.
use Rattle.std.specs.Prelude.{ℕ}
use Rattle.fault.specs.declared.Fault.{Fault}
use Rattle.fault.specs.declared.Fault.TheVariants.{SheetSize, EntryPlace, EntryForm, EntryOrder, PlanConstant, PlannedNumber, RowSize, RowInconsistent, NameRange, NameOpen, RowFull, NameNotOpen, PouredOntoItself, ReadingNotTaken, PouredPastPlan, PlanFull, TallyFull, ReadingsMissing, NoMemory}
use Rattle.fault.specs.declared.Layer.{Layer}
use Rattle.fault.specs.declared.Layer.TheVariants.{Sheet, Entry, Method, Bench, Machine}

-- where two refusals apply, the smaller number is given; 0 is no refusal of the rules, but want of memory
abbrev pub number : Fault → ℕ
number SheetSize = 1
number (EntryPlace i) = 2
number (EntryForm i) = 3
number (EntryOrder i) = 4
number (PlanConstant i) = 5
number (PlannedNumber i) = 6
number (RowSize i) = 7
number (RowInconsistent i) = 8
number (NameRange i) = 9
number (NameOpen i) = 10
number (RowFull i) = 11
number (NameNotOpen i) = 12
number (PouredOntoItself i) = 13
number (ReadingNotTaken i) = 14
number (PouredPastPlan i) = 15
number (PlanFull i) = 16
number (TallyFull i) = 16
number ReadingsMissing = 17
number NoMemory = 0

abbrev pub layer : Fault → Layer
layer SheetSize = Sheet
layer (EntryPlace i) = Sheet
layer (EntryForm i) = Entry
layer (EntryOrder i) = Entry
layer (PlanConstant i) = Method
layer (PlannedNumber i) = Method
layer (RowSize i) = Bench
layer (RowInconsistent i) = Bench
layer (NameRange i) = Bench
layer (NameOpen i) = Bench
layer (RowFull i) = Bench
layer (NameNotOpen i) = Bench
layer (PouredOntoItself i) = Bench
layer (ReadingNotTaken i) = Method
layer (PouredPastPlan i) = Bench
layer (PlanFull i) = Bench
layer (TallyFull i) = Method
layer ReadingsMissing = Bench
layer NoMemory = Machine

-- entries count from 1; 0 is no entry
abbrev pub entry : Fault → ℕ
entry SheetSize = 0
entry (EntryPlace i) = i
entry (EntryForm i) = i
entry (EntryOrder i) = i
entry (PlanConstant i) = i
entry (PlannedNumber i) = i
entry (RowSize i) = i
entry (RowInconsistent i) = i
entry (NameRange i) = i
entry (NameOpen i) = i
entry (RowFull i) = i
entry (NameNotOpen i) = i
entry (PouredOntoItself i) = i
entry (ReadingNotTaken i) = i
entry (PouredPastPlan i) = i
entry (PlanFull i) = i
entry (TallyFull i) = i
entry ReadingsMissing = 0
entry NoMemory = 0

-- the same fault met at entry j; three have no entry
abbrev pub met : ℕ → Fault → Fault
met j SheetSize = SheetSize
met j (EntryPlace i) = EntryPlace j
met j (EntryForm i) = EntryForm j
met j (EntryOrder i) = EntryOrder j
met j (PlanConstant i) = PlanConstant j
met j (PlannedNumber i) = PlannedNumber j
met j (RowSize i) = RowSize j
met j (RowInconsistent i) = RowInconsistent j
met j (NameRange i) = NameRange j
met j (NameOpen i) = NameOpen j
met j (RowFull i) = RowFull j
met j (NameNotOpen i) = NameNotOpen j
met j (PouredOntoItself i) = PouredOntoItself j
met j (ReadingNotTaken i) = ReadingNotTaken j
met j (PouredPastPlan i) = PouredPastPlan j
met j (PlanFull i) = PlanFull j
met j (TallyFull i) = TallyFull j
met j ReadingsMissing = ReadingsMissing
met j NoMemory = NoMemory
