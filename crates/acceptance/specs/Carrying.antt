-- What a sheet that is carried out on rows of pages comes to.
use Rattle.std.specs.Prelude.{◌≡◌, ℕ, Bool, ◌&&◌, List, length, Ok, Err, Result}
use Rattle.fault.specs.Located.{then}
use Rattle.fault.specs.declared.Fault.{Fault}
use Rattle.method.specs.declared.verdict.Verdict.{Verdict}
use Rattle.variables.specs.Sums.{sound}
use Rattle.variables.specs.declared.sums.Sums.{Sums}
use Rattle.attributes.specs.Counts.{sound as marks_sound}
use Rattle.attributes.specs.declared.counts.Counts.{Counts}
use Rattle.plans.specs.Piles.{gauged_pile, known_pile, marks_pile, mean_pile, paired_pile, unknown_pile, window_pile}
use Rattle.rows.specs.declared.page.Page.{Page}
use Rattle.entry.specs.declared.kinds.Plan.{Plan}
use Rattle.entry.specs.declared.kinds.Plan.TheVariants.{Known, Unknown, Window, Marks, Gauged, Mean, Paired}
use Rattle.sheet.specs.First.{first_of}
use Rattle.sheet.specs.Reading.{Progress, opened}
use Rattle.course.specs.Booked.{mark_in, number_in, pair_in}
use Rattle.course.specs.Lots.{LeftOf, lot_of}
use Rattle.acceptance.specs.declared.judged.Judged.{Judged}
use Rattle.acceptance.specs.declared.lent.Rows.{Rows as Lent}

-- the three rows of pages: with the numbers of one tally of readings, of two, and of a tally of marks
pub record Rows : Type 0 where
  pub singles : List (Page Sums)
  pub doubles : List (Page (Sums × Sums))
  pub counts : List (Page Counts)

abbrev pub rows : List (Page Sums) → List (Page (Sums × Sums)) → List (Page Counts) → Rows
rows a b c = record { singles = a; doubles = b; counts = c }

-- what lent rows show
abbrev pub lent : Lent → Rows
lent r = rows r.singles.now r.doubles.now r.counts.now

-- the lent rows e are those that d are, each as long as it was
abbrev pub SameRows : Lent → Lent → Type 0
SameRows d e =
    (e.singles.ghost_name ≡ d.singles.ghost_name) × (e.doubles.ghost_name ≡ d.doubles.ghost_name) × (e.counts.ghost_name ≡ d.counts.ghost_name)
    × (length e.singles.now ≡ length d.singles.now) × (length e.doubles.now ≡ length d.doubles.now) × (length e.counts.now ≡ length d.counts.now)

-- some two tallies give the numbers of a page under two limits
abbrev pub both_sound : Sums × Sums → Bool
both_sound x = sound x.0 && sound x.1

-- what the lot behind a plan comes to
abbrev pub under_plan : Rows → Plan → Progress → Result Verdict Fault
under_plan d (Known n l s k) q = lot_of (known_pile l s k) number_in (length d.singles) n q
under_plan d (Unknown n l k) q = lot_of (unknown_pile l k) number_in (length d.singles) n q
under_plan d (Window n l u k) q = lot_of (window_pile l u k) number_in (length d.doubles) n q
under_plan d (Marks n a) q = lot_of (marks_pile a) mark_in (length d.counts) n q
under_plan d (Gauged n l h a) q = lot_of (gauged_pile l h a) number_in (length d.counts) n q
under_plan d (Mean n c) q = lot_of (mean_pile n c) number_in (length d.singles) n q
under_plan d (Paired n) q = lot_of (paired_pile n) pair_in (length d.singles) n q

abbrev pub begun : List ℕ → Result (Plan × Progress) Fault
begun s = then first_of (opened s)

abbrev pub lot : Plan → Verdict → Judged
lot p v = record { plan = p; verdict = v }

-- what a sheet comes to, or why it is refused
abbrev pub outcome_of : List ℕ → Rows → Result Judged Fault
outcome_of s d = then (λ p. then (λ v. Ok (lot p.0 v)) (under_plan d p.0 p.1)) (begun s)

-- the rows e afterwards, where they were d: one row shows what its plan left there, and the others are as they were
abbrev pub OnSingles : Rows → Rows → Type 0 → Type 0
OnSingles d e P = P × (e.doubles ≡ d.doubles) × (e.counts ≡ d.counts)

abbrev pub OnDoubles : Rows → Rows → Type 0 → Type 0
OnDoubles d e P = P × (e.singles ≡ d.singles) × (e.counts ≡ d.counts)

abbrev pub OnCounts : Rows → Rows → Type 0 → Type 0
OnCounts d e P = P × (e.singles ≡ d.singles) × (e.doubles ≡ d.doubles)

abbrev pub LeftBehind : Plan → Progress → Rows → Rows → Type 0
LeftBehind (Known n l s k) q d e = OnSingles d e (LeftOf (known_pile l s k) number_in sound n q d.singles e.singles)
LeftBehind (Unknown n l k) q d e = OnSingles d e (LeftOf (unknown_pile l k) number_in sound n q d.singles e.singles)
LeftBehind (Window n l u k) q d e = OnDoubles d e (LeftOf (window_pile l u k) number_in both_sound n q d.doubles e.doubles)
LeftBehind (Marks n a) q d e = OnCounts d e (LeftOf (marks_pile a) mark_in marks_sound n q d.counts e.counts)
LeftBehind (Gauged n l h a) q d e = OnCounts d e (LeftOf (gauged_pile l h a) number_in marks_sound n q d.counts e.counts)
LeftBehind (Mean n c) q d e = OnSingles d e (LeftOf (mean_pile n c) number_in sound n q d.singles e.singles)
LeftBehind (Paired n) q d e = OnSingles d e (LeftOf (paired_pile n) pair_in sound n q d.singles e.singles)

-- where no plan was found the rows are as they were
abbrev pub LeftFrom : Result (Plan × Progress) Fault → Rows → Rows → Type 0
LeftFrom (Ok p) d e = LeftBehind p.0 p.1 d e
LeftFrom (Err f) d e = e ≡ d

abbrev pub Left : List ℕ → Rows → Rows → Type 0
Left s d e = LeftFrom (begun s) d e
