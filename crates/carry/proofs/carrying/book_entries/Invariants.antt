use Rattle.std.proofs.Common.{◌-◌}
use Rattle.sheet.specs.Reading.{progress}
use Rattle.carry.specs.Booking.{view}
use Rattle.carry.proofs.Walks.{Along}
use Rattle.carry.proofs.carrying.book_entries.Given as goal

abbrev pub invariant-loop-entry : goal.invariant-loop-entry
invariant-loop-entry l = Along l.initial.booked.n (progress l.initial.reader) (view l.initial.booked) l.booked (progress l.reader)

abbrev pub decreases-loop-entry : goal.decreases-loop-entry
decreases-loop-entry l = l.reader.count - l.reader.next
