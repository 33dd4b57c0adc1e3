use Rattle.std.proofs.Common.{◌≡◌, [], ◌∷◌, ◌++◌, map, Some, None, Ok, Err, vec_items, sym, refl, ap, ◌∙◌, subst, inr, arith}
use Rattle.std.proofs.lemmas.List.{append-nil, map_push}
use Rattle.std.proofs.lemmas.Result.{err_from_is_err_and}
use Rattle.std.proofs.lemmas.Slice.{pushed}
use Rattle.sheet.specs.Reading.{advanced, item_of, progress, seen, step_at}
use Rattle.sheet.specs.Sheets.{Answered, listed, sheet_of}
use Rattle.sheet.proofs.Runs.{Pace, steps, stops, refuses, goes, ends_in, ends}
use Rattle.sheet.proofs.Wholes.{by_rules}
use Rattle.sheet.proofs.whole.entries.Goals as goal
use Rattle.sheet.proofs.whole.entries.Goals.{In-Some}

pub returns-in_err-entry : goal.returns-in_err-entry
returns-in_err-entry c =
    let p = err_from_is_err_and c.from_residual-in_err-entry.result c.from_residual-in_err-entry.ensures.1 in
    let v = c.loop-found.invariant in
    let q = progress c.loop-found.reader in
    let w = refuses q _ _ c.in_err-entry.ensures in
    let h = subst (λ s. step_at s q.next q.stage ≡ Err c.in_err-entry.field-0.0) v.0 w.1 in
    let e = v.1 ∙ ends_in c.args.sheet.now q.count q.next q.stage c.in_err-entry.field-0.0 _ w.0 h in
    let t : Answered (listed c.from_residual-in_err-entry.result) (sheet_of c.args.sheet.now) = rw (p.1, p.2) (inr (sym e)) in
    record { told = t; rules = by_rules c.args.sheet.now _ t }

-- what the reader did, where it answered an entry
module _ (c : In-Some) where
  paced : ◌≡◌ {A = Pace} (Ok (Some (item_of c.in-Some.entry)), progress c.read.new.self) (advanced (progress c.loop-found.reader))
  paced = subst (λ o. ◌≡◌ {A = Pace} (seen (Ok o), progress c.read.new.self) (advanced (progress c.loop-found.reader))) c.in-Some.is c.in_ok-entry.ensures

pub loop-found-smaller : goal.loop-found-smaller
loop-found-smaller c =
    let w = steps (progress c.loop-found.reader) (progress c.read.new.self) (item_of c.in-Some.entry) (paced (goal.at.loop-found-smaller c).In-Some) in
    omega (arith, w.0, w.3, w.4)

pub loop-found-preserved : goal.loop-found-preserved
loop-found-preserved c =
    let v = c.loop-found.invariant in
    let q = progress c.loop-found.reader in
    let q' = progress c.read.new.self in
    let x = item_of c.in-Some.entry in
    let w = steps q q' x (paced (goal.at.loop-found-preserved c).In-Some) in
    let found = map item_of (vec_items c.loop-found.found) in
    let h = subst (λ s. step_at s q.next q.stage ≡ Ok (x, q'.stage)) v.0 w.1 in
    let f : map item_of (vec_items c.push.new.self) ≡ found ++ x ∷ [] = ap (map item_of) (pushed (c.in-Some.entry ∷ []) refl c.in_ok-push.was c.push.ensures.items) ∙ map_push item_of (vec_items c.loop-found.found) c.in-Some.entry in (
      w.2 ∙ v.0,
      v.1 ∙ goes c.args.sheet.now q.count q.next q.stage q'.stage x found w.0 h ∙ rw (f, w.3, w.4),
    )

pub returns : goal.returns
returns c =
    let v = c.loop-found.invariant in
    let q = progress c.loop-found.reader in
    let found = map item_of (vec_items c.loop-found.found) in
    let n : c.in_ok-entry.field-0 ≡ None = c.in_default.is in
    let h = subst (λ o. ◌≡◌ {A = Pace} (seen (Ok o), progress c.read.new.self) (advanced q)) n c.in_ok-entry.ensures in
    let e = ends c.args.sheet.now q.count q.next q.stage found (stops q (progress c.read.new.self) h) in
    let t : Answered (Ok found) (sheet_of c.args.sheet.now) = inr (sym (v.1 ∙ e ∙ ap Ok (append-nil found))) in
    record { told = t; rules = by_rules c.args.sheet.now _ t }
