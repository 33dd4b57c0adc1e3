use Rattle.std.proofs.Common.{◌≡◌, ◌+◌, None, Ok, Err, sym, ap, ◌∙◌, subst, inr, arith}
use Rattle.std.proofs.lemmas.Result.{err_from_is_err_and}
use Rattle.entry.specs.Entries.{Place}
use Rattle.fault.proofs.Passed.{located_ok}
use Rattle.fault.specs.Faults.{met}
use Rattle.sheet.proofs.Runs.{Pace, step_part, steps}
use Rattle.sheet.specs.Reading.{advanced, item_of, progress, seen}
use Rattle.sheet.specs.Sheets.{Answered}
use Rattle.carry.specs.Booking.{Books, view}
use Rattle.carry.specs.Carrying.{books_of}
use Rattle.fault.proofs.Passed.{met_at}
use Rattle.carry.proofs.Walks.{along_denied, along_more, ends, unread}
use Rattle.carry.proofs.carrying.book_entries.Goals as goal

pub returns-in_err-entry : goal.returns-in_err-entry
returns-in_err-entry c =
    let p = err_from_is_err_and c.from_residual.result c.from_residual.ensures.1 in
    let l = c.loop-entry in
    let e = unread c.args.booked.now.n (progress l.reader) _ (view l.booked) _ c.in_err-entry.ensures in
    record { planned = l.invariant.0; books = rw (p.1, p.2) (inr (sym (l.invariant.1 ∙ e))) }

pub loop-entry-smaller : goal.loop-entry-smaller
loop-entry-smaller c =
    let q = progress c.loop-entry.reader in
    let q' = progress c.read.new.self in
    let s = steps q q' (item_of c.in-Some.entry) (subst (λ o. ◌≡◌ {A = Pace} (seen (Ok o), q') (advanced q)) c.in-Some.is c.in_ok-entry.ensures) in
    omega (arith, s.0, s.3, s.4)

pub loop-entry-preserved : goal.loop-entry-preserved
loop-entry-preserved c =
    let l = c.loop-entry in
    let q = progress l.reader in
    let q' = progress c.read.new.self in
    let x = item_of c.in-Some.entry in
    let paced = subst (λ o. ◌≡◌ {A = Pace} (seen (Ok o), q') (advanced q)) c.in-Some.is c.in_ok-entry.ensures in
    let granted = located_ok c.part.result.place c.carry_out.result _ (sym c.in_ok-within.ensures) in
    let done = rw c.said.ensures at c.carry_out.ensures in
    along_more c.args.booked.now.n (progress c.args.reader) (view c.args.booked.now) l.booked c.carry_out.new.self q q' x l.invariant paced c.carry_out.result _ granted done

pub returns-in_err-within : goal.returns-in_err-within
returns-in_err-within c =
    let p = err_from_is_err_and c.from_residual-in_err-within.result c.from_residual-in_err-within.ensures.1 in
    let l = c.loop-entry in
    let q = progress l.reader in
    let q' = progress c.read.new.self in
    let x = item_of c.in-Some.entry in
    let paced = subst (λ o. ◌≡◌ {A = Pace} (seen (Ok o), q') (advanced q)) c.in-Some.is c.in_ok-entry.ensures in
    let place : c.part.result.place ≡ q.next + 1 =
    ap (λ (y : Place). y.place) c.part.ensures ∙ ap (λ (y : Place). y.place) (step_part q.sheet q.next q.stage q'.stage x (steps q q' x paced).1) in
    let refused = met_at c.part.result.place c.carry_out.result _ c.in_err-within.ensures in
    let done = rw c.said.ensures at c.carry_out.ensures in
    let n = c.args.booked.now.n in
    let b = view c.args.booked.now in
    let w = along_denied n (progress c.args.reader) b l.booked c.carry_out.new.self q q' x l.invariant paced c.carry_out.result refused.0 refused.1 done in
    let f = refused.2 ∙ ap (λ i. met i refused.0) place in
    let kept = rw refused.1 at c.carry_out.ensures in
    record { planned = kept.0 ∙ l.invariant.0; books = rw (p.1, p.2) (subst (λ z. Answered {X = Books} (Err z) (books_of n (progress c.args.reader) b)) (sym f) w) }

pub returns : goal.returns
returns c =
    let l = c.loop-entry in
    let q = progress l.reader in
    let q' = progress c.read.new.self in
    let n : c.in_ok-entry.field-0 ≡ None = c.in_default.is in
    let h = subst (λ o. ◌≡◌ {A = Pace} (seen (Ok o), q') (advanced q)) n c.in_ok-entry.ensures in
    record { planned = l.invariant.0; books = inr (sym (l.invariant.1 ∙ ends c.args.booked.now.n q q' (view l.booked) h)) }
