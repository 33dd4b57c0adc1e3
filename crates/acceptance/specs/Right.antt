-- What the verdict of a judged sheet says of the readings that stand.
use Rattle.std.specs.Prelude.{◌≡◌, ℕ, Bool, true, List, ◌∷◌, ℤ, pos, Ok, Err, Option, Result, unsigned_abs}
use Rattle.fault.specs.declared.Fault.{Fault}
use Rattle.method.specs.Meaning.{Meaning}
use Rattle.method.specs.declared.verdict.Verdict.{Verdict}
use Rattle.variables.specs.Sums.{sound}
use Rattle.criteria.specs.Known.{known, constants as known_constants}
use Rattle.criteria.specs.Unknown.{unknown, constants as unknown_constants}
use Rattle.criteria.specs.Mean.{mean, constants as mean_constants}
use Rattle.attributes.specs.Counts.{sound as marks_sound}
use Rattle.attributes.specs.Marks.{marks, constants as marks_constant}
use Rattle.through.specs.Passings.{gauged, paired}
use Rattle.plans.specs.Meets.{GaugedMeets, KnownMeets, MarksMeet, MeanMeets, PairedMeets, UnknownMeets, WindowMeets}
use Rattle.plans.specs.Piles.{gauged_constants, window, window_constants}
use Rattle.rows.specs.declared.page.Page.{Page}
use Rattle.entry.specs.declared.kinds.Plan.{Plan}
use Rattle.entry.specs.declared.kinds.Plan.TheVariants.{Known, Unknown, Window, Marks, Gauged, Mean, Paired}
use Rattle.entry.specs.declared.kinds.Said.{Said}
use Rattle.entry.specs.declared.kinds.Said.TheVariants.{Planned}
use Rattle.sheet.specs.Reading.{Item}
use Rattle.sheet.specs.Rules.{Taken, says}
use Rattle.course.specs.Booked.{mark_in, number_in, pair_in}
use Rattle.course.specs.Course.{natural}
use Rattle.course.specs.Sampled.{Sampled}
use Rattle.acceptance.specs.Carrying.{Rows, both_sound}
use Rattle.acceptance.specs.declared.judged.Judged.{Judged}

-- a lot under a method m: its constants are in range, its n is a number, and of the entries xs behind the plan holds
-- that their readings stand, as many as planned, and that the verdict tells whether they meet what the plan asks
pub record Under {R X : Type 0} (ok : Bool) (m : Meaning R X) (st : X → Bool) (f : Said → Option R) (n : ℤ) (xs : List Said) (qs : List (Page X)) (v : Verdict) (Meets : List R → Type 0) : Type 0 where
  pub in_range : ok ≡ true
  pub number : n ≡ pos (natural n)
  pub sampled : Sampled m st f (natural n) xs qs v Meets

abbrev pub RightUnder : Plan → List Said → Rows → Verdict → Type 0
RightUnder (Known n l s k) xs e v = Under (known_constants l s k) (known l s k) sound number_in n xs e.singles v (KnownMeets l s k)
RightUnder (Unknown n l k) xs e v = Under (unknown_constants l k) (unknown l k) sound number_in n xs e.singles v (UnknownMeets l k)
RightUnder (Window n l u k) xs e v = Under (window_constants l u k) (window l u k) both_sound number_in n xs e.doubles v (WindowMeets l u k)
RightUnder (Marks n a) xs e v = Under (marks_constant a) (marks (unsigned_abs a)) marks_sound mark_in n xs e.counts v (MarksMeet a)
RightUnder (Gauged n l h a) xs e v = Under (gauged_constants l h a) (gauged l h (marks (unsigned_abs a))) marks_sound number_in n xs e.counts v (GaugedMeets l h a)
RightUnder (Mean n c) xs e v = Under (mean_constants n c) (mean (unsigned_abs n) c) sound number_in n xs e.singles v (MeanMeets n c)
RightUnder (Paired n) xs e v = Under (mean_constants n (pos 0)) (paired (mean (unsigned_abs n) (pos 0))) sound pair_in n xs e.singles v (PairedMeets n)

-- a lot that was judged, with the rows e afterwards: the sheet is taken, it begins with the lot's plan, and its other
-- entries are those that the verdict tells of
pub record Right (s : List ℕ) (e : Rows) (t : Judged) : Type 0 where
  pub entries : List Item
  pub taken : Taken s entries
  pub rest : List Said
  pub plan : says entries ≡ Planned t.plan ∷ rest
  pub judged : RightUnder t.plan rest e t.verdict

abbrev pub JudgedBySheet : List ℕ → Rows → Result Judged Fault → Type 0
JudgedBySheet s e (Ok t) = Right s e t
JudgedBySheet s e (Err f) = Unit {0}
