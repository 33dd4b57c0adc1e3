use Rattle.std.proofs.Common.{◌≡◌, ◌-◌, map, vec_items}
use Rattle.sheet.specs.Reading.{item_of}
use Rattle.sheet.specs.Sheets.{items_from, sheet_of}
use Rattle.fault.proofs.Passed.{with}
use Rattle.sheet.proofs.whole.entries.Given as goal

abbrev pub invariant-loop-found : goal.invariant-loop-found
invariant-loop-found l =
    (l.reader.sheet.now ≡ l.sheet)
    × (sheet_of l.sheet ≡ with (map item_of (vec_items l.found)) (items_from l.sheet (l.reader.count - l.reader.next) l.reader.next l.reader.stage))

abbrev pub decreases-loop-found : goal.decreases-loop-found
decreases-loop-found l = l.reader.count - l.reader.next
