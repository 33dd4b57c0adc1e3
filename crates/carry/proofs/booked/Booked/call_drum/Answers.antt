use Rattle.std.proofs.Common.{refl, inr, arith, vec_items, rules, w32}
use Rattle.std.proofs.lemmas.Int.{to_z-of_z}
use Rattle.carry.specs.Booking.{view}
use Rattle.carry.proofs.Bookings.{next_drum, row_full}
use Rattle.carry.proofs.booked.Booked.call_drum.Goals as goal

pub returns-then-open-ge-MOST_DRUMS : goal.returns-then-open-ge-MOST_DRUMS
returns-then-open-ge-MOST_DRUMS c =
    let named = rw (to_z-of_z w32 c.args.number c.ranges.number) at c.in_ok-name.ensures in
    let new = rw c.deref.ensures.value at c.in_default.ensures in
    (refl, refl, inr (row_full c.args.number c.in_ok-name.name (view c.args.self.now) named new (omega arith)))

pub returns : goal.returns
returns c =
    let named = rw (to_z-of_z w32 c.args.number c.ranges.number) at c.in_ok-name.ensures in
    let new = rw c.deref.ensures.value at c.in_default.ensures in
    (refl, next_drum c.args.number c.in_ok-name.name (view c.args.self.now) named new (vec_items c.push.new.self) c.len-open.result (omega arith) (search rules) c.in_ok-push.ensures.items)
