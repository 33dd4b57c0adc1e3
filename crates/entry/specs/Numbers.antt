-- Which texts are numbers.
use Rattle.std.specs.Prelude.{ℕ, zero, suc, ◌+◌, ◌-◌, ◌*◌, Bool, cond, not, ◌&&◌, List, [], ◌∷◌, length, ℤ, pos, neg_ℤ, Some, None, Ok, Option, Result, ◌==◌, nat_le, slice_index}
use Rattle.std.specs.List.{after_first, before_first, between}
use Rattle.std.specs.Option.{option_map, ok_or}
use Rattle.fault.specs.Located.{then}
use Rattle.fault.specs.declared.Fault.{Fault}
use Rattle.fault.specs.declared.Fault.TheVariants.{EntryForm}

abbrev pub digit : ℕ → Bool
digit c = nat_le 48 c && nat_le c 57

-- the number that digits write after those of n; none where one is no digit
abbrev pub digits_after : ℕ → List ℕ → Option ℕ
digits_after n [] = Some n
digits_after n (c ∷ cs) = cond (digit c) (digits_after (n * 10 + (c - 48)) cs) None

-- one digit up to most, the first not 0
abbrev pub digits_of : ℕ → List ℕ → Option ℕ
digits_of most ds = cond (nat_le 1 (length ds) && nat_le (length ds) most && not (slice_index ds 0 == 48)) (digits_after 0 ds) None

-- 0, or an optional minus and one to seven digits, the first not 0
abbrev pub signed_of : List ℕ → Option ℤ
signed_of bs =
    cond (length bs == 1 && slice_index bs 0 == 48) (Some (pos 0))
    (cond (slice_index bs 0 == 45) (option_map (λ n. neg_ℤ (pos n)) (digits_of 7 (between 1 (length bs) bs))) (option_map pos (digits_of 7 bs)))

-- the number that a text is, or that it has no form
abbrev pub number_of : List ℕ → Result ℤ Fault
number_of bs = ok_or (signed_of bs) (EntryForm 0)

abbrev pub is_comma : ℕ → Bool
is_comma c = c == 44

-- k numbers, a comma between each and the next
unfoldable pub numbers_of : ℕ → List ℕ → Result (List ℤ) Fault
numbers_of zero bs = Ok []
numbers_of (suc zero) bs = then (λ x. Ok (x ∷ [])) (number_of bs)
numbers_of (suc (suc k)) bs = then (λ x. then (λ xs. Ok (x ∷ xs)) (numbers_of (suc k) (after_first is_comma bs))) (number_of (before_first is_comma bs))
