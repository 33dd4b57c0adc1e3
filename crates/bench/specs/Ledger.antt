-- The ledger: lines of readings, what the calls do to them, and how pages show them.
use Rattle.std.specs.Prelude.{◌≡◌, ℕ, ◌+◌, ◌≤◌, Bool, true, false, cond, ◌&&◌, ◌||◌, List, [], ◌∷◌, ◌++◌, map, length, replicate, Ok, Err, Result, ◌==◌, nat_le, nat_lt}
use Rattle.std.specs.List.{AllByRecursion}
use Rattle.fault.specs.declared.Fault.{Fault}
use Rattle.fault.specs.declared.Fault.TheVariants.{NameNotOpen, NameOpen, NameRange, PlanFull, PouredOntoItself, PouredPastPlan, ReadingNotTaken, ReadingsMissing, RowFull}
use Rattle.method.specs.Meaning.{Meaning, Taken}
use Rattle.method.specs.declared.verdict.Verdict.{Verdict}
use Rattle.rows.specs.Pages.{page}
use Rattle.rows.specs.declared.page.Page.{Page}
use Rattle.bench.specs.Calls.{after, blank_page, named, told}

-- a name and the readings under it
pub record Line (R : Type 0) : Type 0 where
  pub name : ℕ
  pub readings : List R

abbrev pub line : {R : Type 0} → ℕ → List R → Line R
line x rs = record { name = x; readings = rs }

-- a name with a line is open
abbrev pub is_open : {R : Type 0} → ℕ → List (Line R) → Bool
is_open x [] = false
is_open x (l ∷ ls) = l.name == x || is_open x ls

-- the readings in all lines together: the sample
abbrev pub standing : {R : Type 0} → List (Line R) → List R
standing [] = []
standing (l ∷ ls) = l.readings ++ standing ls

-- the readings of the line with the name
abbrev pub readings_of : {R : Type 0} → ℕ → List (Line R) → List R
readings_of x [] = []
readings_of x (l ∷ ls) = cond (l.name == x) l.readings (readings_of x ls)

-- readings added to the line with the name
abbrev pub add : {R : Type 0} → ℕ → List R → List (Line R) → List (Line R)
add x rs [] = []
add x rs (l ∷ ls) = cond (l.name == x) (line l.name (l.readings ++ rs) ∷ ls) (l ∷ add x rs ls)

-- the line with the name removed
abbrev pub remove : {R : Type 0} → ℕ → List (Line R) → List (Line R)
remove x [] = []
remove x (l ∷ ls) = cond (l.name == x) ls (l ∷ remove x ls)

-- the lines after a call that is granted, or the refusal; the ledger knows the number of pages and sees none
module _ {R X : Type 0} (m : Meaning R X) (n pages : ℕ) where
  abbrev pub opening : ℕ → List (Line R) → Result (List (Line R)) Fault
  opening x ls = cond (named x) (cond (is_open x ls) (Err (NameOpen 0)) (cond (nat_lt (length ls) pages) (Ok (ls ++ line x [] ∷ [])) (Err (RowFull 0)))) (Err (NameRange 0))

  abbrev pub reading : ℕ → R → List (Line R) → Result (List (Line R)) Fault
  reading x r ls =
      cond (named x) (cond (is_open x ls) (cond (m.takes r) (cond (nat_lt (length (standing ls)) n) (Ok (add x (r ∷ []) ls)) (Err (PlanFull 0))) (Err (ReadingNotTaken 0))) (Err (NameNotOpen 0))) (Err (NameRange 0))

  abbrev pub striking : ℕ → List (Line R) → Result (List (Line R)) Fault
  striking x ls = cond (named x) (cond (is_open x ls) (Ok (remove x ls)) (Err (NameNotOpen 0))) (Err (NameRange 0))

  abbrev pub pouring : ℕ → ℕ → List (Line R) → Result (List (Line R)) Fault
  pouring s g ls =
      cond (named s && named g)
      (cond (is_open s ls && is_open g ls)
      (cond (s == g) (Err (PouredOntoItself 0)) (cond (nat_le (length (readings_of s ls) + length (readings_of g ls)) n) (Ok (remove s (add g (readings_of s ls) ls))) (Err (PouredPastPlan 0))))
      (Err (NameNotOpen 0)))
      (Err (NameRange 0))

  -- closing changes nothing, and is granted when the planned number of readings stands
  abbrev pub closing : List (Line R) → Result (List (Line R)) Fault
  closing ls = cond (nat_lt (length (standing ls)) n) (Err ReadingsMissing) (Ok ls)

-- what is said of the lot, where the planned number of readings stands
abbrev pub judging : {R X : Type 0} → Meaning R X → ℕ → List (Line R) → Result Verdict Fault
judging m n ls = cond (nat_lt (length (standing ls)) n) (Err ReadingsMissing) (Ok (m.verdict (m.total (standing ls))))

-- no two lines have one name
abbrev pub Apart : {R : Type 0} → List (Line R) → Type 0
Apart [] = Unit {0}
Apart (l ∷ ls) = (is_open l.name ls ≡ false) × Apart ls

-- the page of a line: its name and the total of its readings
abbrev pub page_of : {R X : Type 0} → Meaning R X → Line R → Page X
page_of m l = page l.name (m.total l.readings)

-- the row that shows the lines in their order, with k blank pages behind
abbrev pub row : {R X : Type 0} → Meaning R X → List (Line R) → ℕ → List (Page X)
row m ls k = map (page_of m) ls ++ replicate k (blank_page m)

-- some tally gives each page's numbers
abbrev pub Sound : {X : Type 0} → (X → Bool) → List (Page X) → Type 0
Sound st ps = AllByRecursion (λ p. st p.numbers ≡ true) ps

-- a call that comes to f was carried out on the pages ps: r is its answer, qs are the pages afterwards, and where some
-- tally gave each page's numbers, one still does
pub record CarriedOut {X : Type 0} (st : X → Bool) (f : List (Page X) → Result (List (Page X)) Fault) (ps qs : List (Page X)) (r : Result (Unit {0}) Fault) : Type 0 where
  pub answer : r ≡ told (f ps)
  pub row : qs ≡ after (f ps) ps
  pub sound : Sound st ps → Sound st qs

-- 1 to 64 pages that picture lines which a bench's past can leave: names in range and apart, readings that the method
-- takes, and at most n of them
pub record Shows {R X : Type 0} (m : Meaning R X) (n : ℕ) (ls : List (Line R)) (ps : List (Page X)) : Type 0 where
  pub blanks : ℕ
  pub shown : ps ≡ row m ls blanks
  pub some : 1 ≤ length ps
  pub most : length ps ≤ 64
  pub names : AllByRecursion (λ l. named l.name ≡ true) ls
  pub apart : Apart ls
  pub taken : AllByRecursion (λ l. Taken m l.readings) ls
  pub few : length (standing ls) ≤ n

-- the pages show the lines, and were written from tallies
pub record Holds {R X : Type 0} (m : Meaning R X) (st : X → Bool) (n : ℕ) (ls : List (Line R)) (ps : List (Page X)) : Type 0 where
  pub shows : Shows m n ls ps
  pub sound : Sound st ps

-- on pages ps that show lines, the answer r is the ledger's, and the pages qs afterwards show the ledger's next lines
abbrev pub Follows : {R X : Type 0} → Meaning R X → (X → Bool) → ℕ → (List (Line R) → Result (List (Line R)) Fault) → List (Page X) → List (Page X) → Result (Unit {0}) Fault → Type 0
Follows m st n f ps qs r = (ls : List (Line _)) → Holds m st n ls ps → (r ≡ told (f ls)) × Holds m st n (after (f ls) ls) qs
