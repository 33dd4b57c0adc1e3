-- Where a name was found, and what a granted check tells of the pages.
use Rattle.std.proofs.Common.{◌≡◌, ℕ, zero, suc, ◌-◌, ◌<◌, ◌≤◌, Bool, true, false, cond, eqb, List, [], ◌∷◌, length, get_or, Some, Ok, arith}
use Rattle.std.proofs.lemmas.Bool.Decides.{nat_tests}
use Rattle.method.specs.Meaning.{Meaning}
use Rattle.rows.specs.declared.page.Page.{Page}
use Rattle.rows.specs.Checks.{checked, room}
use Rattle.rows.specs.Pages.{found, place}

pub place_length : {X : Type 0} (x : ℕ) (ps : List (Page X)) → place x ps ≤ length ps
place_length x [] = omega arith
place_length x (p ∷ ps) = let ih = place_length x ps in elim (eqb p.name x) as (λ b. cond b 0 (suc (place x ps)) ≤ suc (length ps)) [ true ↦ omega arith | false ↦ omega arith ]

-- where a name was found
pub found_at : {X : Type 0} (x : ℕ) (ps : List (Page X)) (i : ℕ) → found x ps ≡ Some i → (place x ps ≡ i) × (i < length ps)
found_at x ps i h = (grind (arith, nat_tests), grind (arith, nat_tests))

room_stands : {R X : Type 0} (m : Meaning R X) (st : X → Bool) (k j : ℕ) (ps : List (Page X)) → room m st k ps ≡ Some j → (i : ℕ) (d : Page X) → i < length ps → st (get_or ps i d).numbers ≡ true
room_stands m st k j [] h i d lt = absurd (omega arith)
room_stands m st k j (p ∷ ps) h zero d lt = grind (arith, nat_tests)
room_stands m st k j (p ∷ ps) h (suc i) d lt = let later = λ (r : room m st (k - m.count p.numbers) ps ≡ Some j). room_stands m st (k - m.count p.numbers) j ps r i d (omega arith) in grind (arith, nat_tests, later)

checked_room : {R X : Type 0} (m : Meaning R X) (st : X → Bool) (n k : ℕ) (ps : List (Page X)) → checked m st n ps ≡ Ok k → room m st n ps ≡ Some k
checked_room m st n k ps h = grind (arith, nat_tests)

-- where the check is passed some tally gives each page's numbers
pub checked_stands : {R X : Type 0} (m : Meaning R X) (st : X → Bool) (n k : ℕ) (ps : List (Page X)) → checked m st n ps ≡ Ok k → (i : ℕ) (d : Page X) → i < length ps → st (get_or ps i d).numbers ≡ true
checked_stands m st n k ps h = room_stands m st n k ps (checked_room m st n k ps h)
