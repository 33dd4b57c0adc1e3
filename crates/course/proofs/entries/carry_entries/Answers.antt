use Rattle.std.proofs.Common.{◌≡◌, ◌+◌, None, Ok, Err, sym, ap, ◌∙◌, subst, arith, rules}
use Rattle.std.proofs.lemmas.Result.{err_from_is_err_and}
use Rattle.entry.specs.Entries.{Place}
use Rattle.fault.proofs.Passed.{located_ok}
use Rattle.fault.specs.Faults.{met}
use Rattle.sheet.proofs.Runs.{Pace, step_part, steps}
use Rattle.sheet.specs.Reading.{advanced, item_of, progress, seen}
use Rattle.fault.proofs.Passed.{met_at}
use Rattle.course.proofs.Courses.{Came, along_denied, along_ended, along_more, along_unread}
use Rattle.course.proofs.entries.carry_entries.Goals as goal

pub returns-in_err-entry : goal.returns-in_err-entry
returns-in_err-entry g c ls h =
    let p = err_from_is_err_and c.from_residual.result c.from_residual.ensures.1 in
    let l = c.loop-entry in
    let w = along_unread g.M.Method.meaning g.M.Method.stands g.M.Reading.Booked.booked c.args.bench.now c.args.pages.now (progress c.args.reader) l.work (progress l.reader) _ l.invariant.1 _ c.in_err-entry.ensures ls h in
    let same = sym l.invariant.0 in
    rw (p.1, p.2) (search (rules, w))

pub loop-entry-smaller : goal.loop-entry-smaller
loop-entry-smaller g c =
    let q = progress c.loop-entry.reader in
    let q' = progress c.read.new.self in
    let s = steps q q' (item_of c.in-Some.entry) (subst (λ o. ◌≡◌ {A = Pace} (seen (Ok o), q') (advanced q)) c.in-Some.is c.in_ok-entry.ensures) in
    omega (arith, s.0, s.3, s.4)

pub loop-entry-preserved : goal.loop-entry-preserved
loop-entry-preserved g c =
    let m = g.M.Method.meaning in
    let st = g.M.Method.stands in
    let f = g.M.Reading.Booked.booked in
    let l = c.loop-entry in
    let d = l.work in
    let e = c.carry_out.new.self in
    let q = progress l.reader in
    let q' = progress c.read.new.self in
    let x = item_of c.in-Some.entry in
    let paced = subst (λ o. ◌≡◌ {A = Pace} (seen (Ok o), q') (advanced q)) c.in-Some.is c.in_ok-entry.ensures in
    let granted = located_ok c.part.result.place c.carry_out.result _ (sym c.in_ok-within.ensures) in
    let s = rw (c.said.ensures, granted) at c.carry_out.ensures in
    (s.1 ∙ l.invariant.0, along_more m st f c.args.bench.now c.args.pages.now (progress c.args.reader) d q q' l.invariant.1 e x _ paced s)

pub returns-in_err-within : goal.returns-in_err-within
returns-in_err-within g c ls h =
    let p = err_from_is_err_and c.from_residual-in_err-within.result c.from_residual-in_err-within.ensures.1 in
    let m = g.M.Method.meaning in
    let st = g.M.Method.stands in
    let f = g.M.Reading.Booked.booked in
    let l = c.loop-entry in
    let d = l.work in
    let e = c.carry_out.new.self in
    let q = progress l.reader in
    let q' = progress c.read.new.self in
    let x = item_of c.in-Some.entry in
    let paced = subst (λ o. ◌≡◌ {A = Pace} (seen (Ok o), q') (advanced q)) c.in-Some.is c.in_ok-entry.ensures in
    let place : c.part.result.place ≡ q.next + 1 =
    ap (λ (y : Place). y.place) c.part.ensures ∙ ap (λ (y : Place). y.place) (step_part q.sheet q.next q.stage q'.stage x (steps q q' x paced).1) in
    let refused = met_at c.part.result.place c.carry_out.result _ c.in_err-within.ensures in
    let s = rw (c.said.ensures, refused.1) at c.carry_out.ensures in
    let w = along_denied m st f c.args.bench.now c.args.pages.now (progress c.args.reader) d q q' l.invariant.1 e x refused.0 paced s ls h in
    let v = subst (λ z. Came m st f c.args.bench.now c.args.pages.now (progress c.args.reader) ls e.pages.now (Err z)) (sym (refused.2 ∙ ap (λ i. met i refused.0) place)) w in
    let same = sym (s.1 ∙ l.invariant.0) in
    rw (p.1, p.2) (search (rules, v))

pub returns : goal.returns
returns g c ls h =
    let l = c.loop-entry in
    let q' = progress c.read.new.self in
    let n : c.in_ok-entry.field-0 ≡ None = c.in_default.is in
    let k = subst (λ o. ◌≡◌ {A = Pace} (seen (Ok o), q') (advanced (progress l.reader))) n c.in_ok-entry.ensures in
    let w = along_ended g.M.Method.meaning g.M.Method.stands g.M.Reading.Booked.booked c.args.bench.now c.args.pages.now (progress c.args.reader) l.work (progress l.reader) q' l.invariant.1 k ls h in
    let same = sym l.invariant.0 in
    search (rules, w)
