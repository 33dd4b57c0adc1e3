-- A method that passes each reading on, in another form, to a method below.
use Rattle.std.specs.Prelude.{◌≡◌, suc, Bool, cond, ◌&&◌, List, [], ◌∷◌, ◌++◌, map, length, Some, None, Option, refl}
use Rattle.std.proofs.Common.{ap, ◌∙◌}
use Rattle.std.proofs.lemmas.Bool.{and_parts}
use Rattle.method.specs.Meaning.{Meaning, Laws, Taken}

-- what is passed on for a reading within its limits
abbrev pub passed_on : {P R : Type 0} → (P → Bool) → (P → R) → P → Option R
passed_on fits f r = cond (fits r) (Some (f r)) None

-- takes a reading within its limits when what it passes on is taken below; all else is the method's below
abbrev pub through : {P R X : Type 0} → (P → Bool) → (P → R) → Meaning R X → Meaning P X
through fits f m = record {
  takes = λ r. fits r && m.takes (f r);
  allows = m.allows;
  total = λ xs. m.total (map f xs);
  join = m.join;
  count = m.count;
  verdict = m.verdict;
}

module _ {P R X : Type 0} (fits : P → Bool) (f : P → R) (m : Meaning R X) where
  -- readings that are taken above are passed on as readings that are taken below
  pub taken_below : (xs : List P) → Taken (through fits f m) xs → Taken m (map f xs)
  taken_below [] t = tt
  taken_below (x ∷ xs) t = ((and_parts (fits x) (m.takes (f x)) t.0).1, taken_below xs t.1)

  map_append : (xs ys : List P) → map f (xs ++ ys) ≡ map f xs ++ map f ys
  map_append [] ys = refl
  map_append (x ∷ xs) ys = ap (λ zs. f x ∷ zs) (map_append xs ys)

  map_length : (xs : List P) → length (map f xs) ≡ length xs
  map_length [] = refl
  map_length (x ∷ xs) = ap suc (map_length xs)

  -- the laws hold above where they hold below
  pub through_laws : Laws m → Laws (through fits f m)
  through_laws l = record {
    appended = λ xs ys s t. ap m.total (map_append xs ys) ∙ l.appended (map f xs) (map f ys) (taken_below xs s) (taken_below ys t);
    assoc = l.assoc;
    comm = l.comm;
    neutral = l.neutral;
    counted = λ xs t. l.counted (map f xs) (taken_below xs t) ∙ map_length xs;
    shared = l.shared;
  }
