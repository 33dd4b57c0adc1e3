-- The table of a sheet: a number of entries, then a pair of offset and length for each.
use Rattle.std.specs.Prelude.{ℕ, zero, suc, ◌+◌, ◌-◌, ◌*◌, Bool, cond, not, ◌&&◌, List, length, Some, None, Ok, Err, Option, Result, ◌==◌, nat_le, slice_index}
use Rattle.std.specs.List.{between}
use Rattle.fault.specs.declared.Fault.{Fault}
use Rattle.fault.specs.declared.Fault.TheVariants.{SheetSize, EntryPlace}

-- 16 bits, high byte first
abbrev pub word_at : List ℕ → ℕ → ℕ
word_at s i = slice_index s i * 256 + slice_index s (i + 1)

-- the number of entries
abbrev pub count_of : List ℕ → ℕ
count_of s = word_at s 0

abbrev pub table_end : List ℕ → ℕ
table_end s = 2 + 4 * count_of s

-- where entry i begins, counted from 0; how many bytes it has; where it ends
abbrev pub offset_at : List ℕ → ℕ → ℕ
offset_at s i = word_at s (2 + 4 * i)

abbrev pub size_at : List ℕ → ℕ → ℕ
size_at s i = word_at s (4 + 4 * i)

abbrev pub end_at : List ℕ → ℕ → ℕ
end_at s i = offset_at s i + size_at s i

-- where the entry before i ends; 0 before the first
abbrev pub end_before : List ℕ → ℕ → ℕ
end_before s i = cond (i == 0) 0 (end_at s (i - 1))

-- 2 to 65,535 bytes, at least one entry, and room for the table
abbrev pub sized : List ℕ → Bool
sized s = nat_le 2 (length s) && nat_le (length s) 65535 && not (count_of s == 0) && nat_le (table_end s) (length s)

-- entry i has 1 to 48 bytes, begins behind the table and behind the entry before, and ends within the sheet
abbrev pub placed : List ℕ → ℕ → Bool
placed s i = nat_le 1 (size_at s i) && nat_le (size_at s i) 48 && nat_le (table_end s) (offset_at s i) && nat_le (end_before s i) (offset_at s i) && nat_le (end_at s i) (length s)

-- the first of the k entries from i on that is not placed so
unfoldable pub misplaced : List ℕ → ℕ → ℕ → Option ℕ
misplaced s zero i = None
misplaced s (suc k) i = cond (placed s i) (misplaced s k (i + 1)) (Some i)

-- the number of entries, unless one is misplaced
abbrev pub unless : ℕ → Option ℕ → Result ℕ Fault
unless m None = Ok m
unless m (Some i) = Err (EntryPlace (i + 1))

-- the number of entries of a sheet, or why its table is refused
abbrev pub table_of : List ℕ → Result ℕ Fault
table_of s = cond (sized s) (unless (count_of s) (misplaced s (count_of s) 0)) (Err SheetSize)

-- the bytes of entry i
abbrev pub part_at : List ℕ → ℕ → List ℕ
part_at s i = between (offset_at s i) (end_at s i) s
