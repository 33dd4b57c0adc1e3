-- The rules of a sheet by index: which sheets are taken, with which entries, and which refusal any other gets.
use Rattle.std.specs.Prelude.{◌≡◌, ℕ, ◌+◌, ◌<◌, ◌≤◌, ◌⊎◌, List, [], ◌∷◌, ◌++◌, map, length, get_or, pos, Ok, Err, Result, ◌≢◌, slice_index_or}
use Rattle.std.specs.List.{between}
use Rattle.fault.specs.declared.Fault.{Fault}
use Rattle.fault.specs.declared.Fault.TheVariants.{SheetSize, EntryPlace, EntryForm, EntryOrder, NoMemory}
use Rattle.entry.specs.Entries.{Place}
use Rattle.entry.specs.Forms.{said_of}
use Rattle.entry.specs.declared.kinds.Plan.{Plan}
use Rattle.entry.specs.declared.kinds.Said.{Said}
use Rattle.entry.specs.declared.kinds.Said.TheVariants.{Planned, Drum, Reading, Pair, Mark}
use Rattle.sheet.specs.Order.{kind_of}
use Rattle.sheet.specs.Reading.{Item, place_at}
use Rattle.sheet.specs.Table.{count_of, end_at, offset_at, part_at, size_at, table_end}
use Rattle.sheet.specs.declared.order.Kind.TheVariants.{OfReadings, OfPairs, OfMarks}

pub record Sized (s : List ℕ) : Type 0 where
  pub long_enough : 2 ≤ length s
  pub short_enough : length s ≤ 65535
  pub some : 0 < count_of s
  pub table : table_end s ≤ length s

-- entry i, counted from 0, lies where an entry may
pub record Placed (s : List ℕ) (i : ℕ) : Type 0 where
  pub some : 1 ≤ size_at s i
  pub short : size_at s i ≤ 48
  pub behind_table : table_end s ≤ offset_at s i
  pub behind_previous : (j : ℕ) → i ≡ j + 1 → end_at s j ≤ offset_at s i
  pub within : end_at s i ≤ length s

abbrev pub IsPlan : Said → Type 0
IsPlan (Planned p) = Unit {0}
IsPlan (Drum a) = ⊥
IsPlan (Reading a) = ⊥
IsPlan (Pair a b) = ⊥
IsPlan (Mark b) = ⊥

abbrev pub IsDrum : Said → Type 0
IsDrum (Planned p) = ⊥
IsDrum (Drum a) = Unit {0}
IsDrum (Reading a) = ⊥
IsDrum (Pair a b) = ⊥
IsDrum (Mark b) = ⊥

-- a reading, a pair or a mark
abbrev pub IsMeasured : Said → Type 0
IsMeasured (Planned p) = ⊥
IsMeasured (Drum a) = ⊥
IsMeasured (Reading a) = Unit {0}
IsMeasured (Pair a b) = Unit {0}
IsMeasured (Mark b) = Unit {0}

-- drums fit every plan; readings, pairs and marks fit a plan on them
abbrev pub FitsPlan : Plan → Said → Type 0
FitsPlan p (Planned q) = ⊥
FitsPlan p (Drum a) = Unit {0}
FitsPlan p (Reading a) = kind_of p ≡ OfReadings
FitsPlan p (Pair a b) = kind_of p ≡ OfPairs
FitsPlan p (Mark b) = kind_of p ≡ OfMarks

abbrev pub Fits : Said → Said → Type 0
Fits (Planned p) x = FitsPlan p x
Fits (Drum a) x = ⊥
Fits (Reading a) x = ⊥
Fits (Pair a b) x = ⊥
Fits (Mark b) x = ⊥

-- what entry i says, for an i that there is
abbrev pub at : List Said → ℕ → Said
at xs i = slice_index_or xs i (Drum (pos 0))

-- entry 0 is a plan, no later one is, each later one fits it, and some drum stands before each reading, pair or mark
pub record Ordered (xs : List Said) : Type 0 where
  pub plan_first : IsPlan (at xs 0)
  pub one_plan : (i : ℕ) → 0 < i → i < length xs → IsPlan (at xs i) → ⊥
  pub fits : (i : ℕ) → 0 < i → i < length xs → Fits (at xs 0) (at xs i)
  pub drum_before : (i : ℕ) → i < length xs → IsMeasured (at xs i) → (j : ℕ) × (j < i) × IsDrum (at xs j)

abbrev pub says : List Item → List Said
says xs = map (λ x. x.says) xs

-- the first entries of the sheet are these, each of the form of its letter, in order
pub record Begins (s : List ℕ) (xs : List Item) : Type 0 where
  pub said : (i : ℕ) (d : Item) → i < length xs → said_of (part_at s i) ≡ Ok (get_or xs i d).says
  pub part : (i : ℕ) (d : Item) → i < length xs → (get_or xs i d).part ≡ place_at s i
  pub order : 0 < length xs → Ordered (says xs)

-- a part lies in the sheet, behind the table
pub record Lies (s : List ℕ) (p : Place) : Type 0 where
  pub behind_table : table_end s ≤ p.offset
  pub within : p.offset + length p.bytes ≤ length s
  pub bytes : p.bytes ≡ between p.offset (p.offset + length p.bytes) s

-- the sheet is taken, and these are its entries
pub record Taken (s : List ℕ) (xs : List Item) : Type 0 where
  pub sized : Sized s
  pub placed : (i : ℕ) → i < count_of s → Placed s i
  pub all : length xs ≡ count_of s
  pub entries : Begins s xs
  pub lies : (i : ℕ) (d : Item) → i < length xs → Lies s (get_or xs i d).part
  pub apart : (i j : ℕ) (d : Item) → i < j → j < length xs → (get_or xs i d).part.offset + length (get_or xs i d).part.bytes ≤ (get_or xs j d).part.offset

-- the sheet is refused: the table of the whole sheet is looked at first, then the entries one by one
pub data Refused (s : List ℕ) : Fault → Type 0 where
  wrong_size : (Sized s → ⊥) → Refused s SheetSize
  misplaced : (i : ℕ) → Sized s → i < count_of s → ((j : ℕ) → j < i → Placed s j) → (Placed s i → ⊥) → Refused s (EntryPlace (i + 1))
  formless : (xs : List Item) → Sized s → ((j : ℕ) → j < count_of s → Placed s j) → Begins s xs → length xs < count_of s → ((x : Said) → said_of (part_at s (length xs)) ≢ Ok x) → Refused s (EntryForm (length xs + 1))
  disordered : (xs : List Item) (x : Said) → Sized s → ((j : ℕ) → j < count_of s → Placed s j) → Begins s xs → length xs < count_of s → said_of (part_at s (length xs)) ≡ Ok x → (Ordered (says xs ++ x ∷ []) → ⊥) → Refused s (EntryOrder (length xs + 1))

-- what a sheet read alone is answered
abbrev pub Read : List ℕ → Result (List Item) Fault → Type 0
Read s (Ok xs) = Taken s xs
Read s (Err f) = Refused s f

-- the same of an answer that may also be want of memory
abbrev pub ReadByRules : List ℕ → Result (List Item) Fault → Type 0
ReadByRules s r = (r ≡ Err NoMemory) ⊎ Read s r
