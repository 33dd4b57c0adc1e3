-- The settled examples: the numbers on both sides, and the answers.
use Rattle.std.specs.Prelude.{◌≡◌, ℕ, Bool, true, false, cond, ◌&&◌, List, [], ◌∷◌, map, length, ℤ, pos, Ok, Err, Result, ◌==◌}
use Rattle.fault.specs.Located.{then}
use Rattle.fault.specs.declared.Fault.{Fault}
use Rattle.fault.specs.declared.Fault.TheVariants.{PlannedNumber}
use Rattle.method.specs.Meaning.{Meaning}
use Rattle.method.specs.Verdicts.{yes}
use Rattle.variables.specs.Sums.{spread, summed}
use Rattle.criteria.specs.Known.{scatter as known_scatter, margin as known_margin}
use Rattle.criteria.specs.Unknown.{scatter, margin}
use Rattle.criteria.specs.Mean.{scatter as mean_scatter, departure}
use Rattle.attributes.specs.Counts.{marked}
use Rattle.through.specs.Passings.{conforms, difference}
use Rattle.through.specs.declared.difference.Pair.{Pair}
use Rattle.plans.specs.Piles.{gauged_pile, known_pile, marks_pile, mean_pile, paired_pile, unknown_pile, window_pile}

-- whether a plan for n readings says yes to these, of which there are n
abbrev pub says : {R X : Type 0} → Result (Meaning R X) Fault → ℕ → List R → Result Bool Fault
says p n xs = then (λ m. cond (m.allows n && length xs == n) (Ok (yes (m.verdict (m.total xs)))) (Err (PlannedNumber 0))) p

-- 101, 101, 101, 103
abbrev pub four : List ℤ
four = pos 101 ∷ pos 101 ∷ pos 101 ∷ pos 103 ∷ []

abbrev pub two : ℤ → ℤ → List ℤ
two a b = a ∷ b ∷ []

abbrev pub pair : ℤ → ℤ → Pair
pair a b = record { first = a; second = b }

-- (5,3), (7,7), (6,5)
abbrev pub pairs : List Pair
pairs = pair (pos 5) (pos 3) ∷ pair (pos 7) (pos 7) ∷ pair (pos 6) (pos 5) ∷ []

pub record Settled : Type 0 where
  -- U4,100,1500 on the four: equality accepts
  pub sum : (summed four).s ≡ pos 406
  pub spread_of_four : spread (summed four) ≡ pos 12
  pub right_1500 : scatter (pos 1500) (summed four) ≡ pos 108000000
  pub left_100 : margin (pos 100) (summed four) ≡ pos 108000000
  pub u4_100_1500 : says (unknown_pile (pos 100) (pos 1500)) 4 four ≡ Ok true
  -- with K = 1501
  pub right_1501 : scatter (pos 1501) (summed four) ≡ pos 108144048
  pub u4_100_1501 : says (unknown_pile (pos 100) (pos 1501)) 4 four ≡ Ok false
  -- U2,10,2000 on 10, 10 and on 10, 20
  pub u2_10_2000_even : says (unknown_pile (pos 10) (pos 2000)) 2 (two (pos 10) (pos 10)) ≡ Ok true
  pub left_10 : margin (pos 10) (summed (two (pos 10) (pos 20))) ≡ pos 100000000
  pub right_2000 : scatter (pos 2000) (summed (two (pos 10) (pos 20))) ≡ pos 800000000
  pub u2_10_2000_apart : says (unknown_pile (pos 10) (pos 2000)) 2 (two (pos 10) (pos 20)) ≡ Ok false
  -- U2,100,0 on 90, 90: A is negative
  pub u2_100_0 : says (unknown_pile (pos 100) (pos 0)) 2 (two (pos 90) (pos 90)) ≡ Ok false
  -- K4,100,1,1500 on the four, and with 1501
  pub known_left : known_margin (pos 100) (summed four) ≡ pos 6000
  pub known_right_1500 : known_scatter (pos 1) (pos 1500) (summed four) ≡ pos 6000
  pub k4_100_1_1500 : says (known_pile (pos 100) (pos 1) (pos 1500)) 4 four ≡ Ok true
  pub known_right_1501 : known_scatter (pos 1) (pos 1501) (summed four) ≡ pos 6004
  pub k4_100_1_1501 : says (known_pile (pos 100) (pos 1) (pos 1501)) 4 four ≡ Ok false
  -- A5,1 with one mark of five not conforming, and with two
  pub one_fails : (marked (false ∷ true ∷ true ∷ true ∷ true ∷ [])).z ≡ 1
  pub a5_1_one : says (marks_pile (pos 1)) 5 (false ∷ true ∷ true ∷ true ∷ true ∷ []) ≡ Ok true
  pub two_fail : (marked (false ∷ true ∷ false ∷ true ∷ true ∷ [])).z ≡ 2
  pub a5_1_two : says (marks_pile (pos 1)) 5 (false ∷ true ∷ false ∷ true ∷ true ∷ []) ≡ Ok false
  -- T4,100 on the four
  pub mean_left : departure (pos 100) (summed four) ≡ pos 108000000
  pub mean_right : mean_scatter 4 (summed four) ≡ pos 66439308
  pub t4_100 : says (mean_pile (pos 4) (pos 100)) 4 four ≡ Ok false
  -- V3 on the three pairs
  pub pairs_left : departure (pos 0) (summed (map difference pairs)) ≡ pos 18000000
  pub pairs_right : mean_scatter 3 (summed (map difference pairs)) ≡ pos 51158400
  pub V3 : says (paired_pile (pos 3)) 3 pairs ≡ Ok true
  -- G4,101,102,1 on the four, and with Ac = 0
  pub outside : (marked (map (conforms (pos 101) (pos 102)) four)).z ≡ 1
  pub g4_101_102_1 : says (gauged_pile (pos 101) (pos 102) (pos 1)) 4 four ≡ Ok true
  pub g4_101_102_0 : says (gauged_pile (pos 101) (pos 102) (pos 0)) 4 four ≡ Ok false
  -- W4,100,103,1500 on the four, and with U = 102
  pub w4_100_103_1500 : says (window_pile (pos 100) (pos 103) (pos 1500)) 4 four ≡ Ok true
  pub w4_100_102_1500 : says (window_pile (pos 100) (pos 102) (pos 1500)) 4 four ≡ Ok false
