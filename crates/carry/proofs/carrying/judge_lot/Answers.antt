use Rattle.std.proofs.Common.{Err, sym, ap, ◌∙◌, subst, inr, w32}
use Rattle.std.proofs.lemmas.Int.{to_z-of_z}
use Rattle.std.proofs.lemmas.Result.{err_from_is_err_and}
use Rattle.fault.specs.Located.{then}
use Rattle.sheet.specs.Reading.{progress}
use Rattle.sheet.specs.Sheets.{Answered}
use Rattle.carry.specs.Booking.{view}
use Rattle.carry.specs.Carrying.{Lot, blank, books_of, closed, planned_number}
use Rattle.carry.proofs.Outcomes.{answered_ok, begun_err, begun_ok, lot_goes, lot_unplanned, made_method, passed_on}
use Rattle.carry.proofs.carrying.judge_lot.Goals as goal

pub returns-in_err-booked : goal.returns-in_err-booked
returns-in_err-booked c =
    let p = err_from_is_err_and c.from_residual-in_err-booked.result c.from_residual-in_err-booked.ensures.1 in
    let m = made_method c.args.limit c.args.k c.ranges.limit c.ranges.k c.new.result c.in_ok-method.method c.in_ok-method.ensures c.new.ensures in
    let begun = rw (to_z-of_z w32 c.args.n c.ranges.n) at c.for_plan.ensures in
    rw (p.1, p.2) (inr (sym (lot_unplanned c.args.n c.args.limit c.args.k (progress c.args.reader) m.0 _ (begun_err (planned_number c.args.n) c.for_plan.result _ c.in_err-booked.ensures begun))))

pub returns-in_err-book_entries : goal.returns-in_err-book_entries
returns-in_err-book_entries c =
    let p = err_from_is_err_and c.from_residual-in_err-book_entries.result c.from_residual-in_err-book_entries.ensures.1 in
    let m = made_method c.args.limit c.args.k c.ranges.limit c.ranges.k c.new.result c.in_ok-method.method c.in_ok-method.ensures c.new.ensures in
    let begun = rw (to_z-of_z w32 c.args.n c.ranges.n) at c.for_plan.ensures in
    let b = c.in_ok-booked.booked in
    let d = begun_ok (planned_number c.args.n) c.for_plan.result b c.in_ok-booked.ensures begun in
    let q = progress c.args.reader in
    let f = c.in_err-book_entries.field-0.0 in
    let books = rw d.1 at c.in_err-book_entries.ensures.books in
    rw (p.1, p.2)
    (subst (λ x. Answered {X = Lot} (Err f) x) (sym (lot_goes c.args.n c.args.limit c.args.k q m.0 b.n d.0)) (passed_on (books_of b.n q blank) (closed b.n c.args.limit c.args.k) f books))

pub returns : goal.returns
returns c =
    let m = made_method c.args.limit c.args.k c.ranges.limit c.ranges.k c.new.result c.in_ok-method.method c.in_ok-method.ensures c.new.ensures in
    let begun = rw (to_z-of_z w32 c.args.n c.ranges.n) at c.for_plan.ensures in
    let b = c.in_ok-booked.booked in
    let d = begun_ok (planned_number c.args.n) c.for_plan.result b c.in_ok-booked.ensures begun in
    let q = progress c.args.reader in
    let e = c.book_entries.new.booked in
    let books = rw d.1 at c.in_ok-book_entries.ensures.books in
    let g = answered_ok (books_of b.n q blank) (view e) books in
    inr
    (c.close.ensures ∙ ap (λ l. closed e.n l c.in_ok-method.method.k (view e)) m.1 ∙ ap (λ k. closed e.n c.args.limit k (view e)) m.2 ∙ ap (λ i. closed i c.args.limit c.args.k (view e)) c.in_ok-book_entries.ensures.planned
    ∙ sym (lot_goes c.args.n c.args.limit c.args.k q m.0 b.n d.0 ∙ ap (then (closed b.n c.args.limit c.args.k)) g))
