use Rattle.std.proofs.Common.{◌≡◌, ◌-◌}
use Rattle.sheet.specs.Reading.{progress}
use Rattle.course.proofs.Courses.{Along}
use Rattle.course.proofs.entries.carry_entries.Given as goal

abbrev pub invariant-loop-entry : goal.invariant-loop-entry
invariant-loop-entry g l =
    let first = l.initial.work in
    (l.work.pages.ghost_name ≡ first.pages.ghost_name) × Along g.M.Method.meaning g.M.Method.stands g.M.Reading.Booked.booked first.bench.now first.pages.now (progress l.initial.reader) l.work (progress l.reader)

abbrev pub decreases-loop-entry : goal.decreases-loop-entry
decreases-loop-entry g l = l.reader.count - l.reader.next
