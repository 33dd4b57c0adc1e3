-- Two methods on one kind of reading, as one.
use Rattle.std.specs.Prelude.{◌≡◌, max, ◌&&◌, List, [], ◌∷◌}
use Rattle.std.proofs.Common.{arith}
use Rattle.std.proofs.lemmas.Bool.{and_parts}
use Rattle.method.specs.Meaning.{Meaning, Laws, Taken}
use Rattle.method.specs.Verdicts.{lower, yes, yes_lower}

-- what the two mean as one: each keeps its own numbers of the same readings
abbrev pub both : {R X Y : Type 0} → Meaning R X → Meaning R Y → Meaning R (X × Y)
both m n = record {
  takes = λ r. m.takes r && n.takes r;
  allows = λ k. m.allows k && n.allows k;
  total = λ xs. (m.total xs, n.total xs);
  join = λ x y. (m.join x.0 y.0, n.join x.1 y.1);
  count = λ x. max (m.count x.0) (n.count x.1);
  verdict = λ x. lower (m.verdict x.0) (n.verdict x.1);
}

pair_same : {X Y : Type 0} (a b : X) (c d : Y) → a ≡ b → c ≡ d → ◌≡◌ {A = X × Y} (a, c) (b, d)
pair_same a b c d e f = cc

module _ {R X Y : Type 0} (m : Meaning R X) (n : Meaning R Y) where
  -- the two say yes exactly when each does
  pub yes_both : (x : X × Y) → yes ((both m n).verdict x) ≡ (yes (m.verdict x.0) && yes (n.verdict x.1))
  yes_both x = yes_lower (m.verdict x.0) (n.verdict x.1)

  pub taken_first : (xs : List R) → Taken (both m n) xs → Taken m xs
  taken_first [] t = tt
  taken_first (x ∷ xs) t = ((and_parts (m.takes x) (n.takes x) t.0).0, taken_first xs t.1)

  pub taken_second : (xs : List R) → Taken (both m n) xs → Taken n xs
  taken_second [] t = tt
  taken_second (x ∷ xs) t = ((and_parts (m.takes x) (n.takes x) t.0).1, taken_second xs t.1)

  -- the two keep every law that each keeps
  pub both_laws : Laws m → Laws n → Laws (both m n)
  both_laws f g = record {
    appended = λ xs ys s t. pair_same _ _ _ _ (f.appended xs ys (taken_first xs s) (taken_first ys t)) (g.appended xs ys (taken_second xs s) (taken_second ys t));
    assoc = λ x y z. pair_same _ _ _ _ (f.assoc x.0 y.0 z.0) (g.assoc x.1 y.1 z.1);
    comm = λ x y. pair_same _ _ _ _ (f.comm x.0 y.0) (g.comm x.1 y.1);
    neutral = λ x. pair_same _ _ _ _ (f.neutral x.0) (g.neutral x.1);
    counted = λ xs t. omega (arith, f.counted xs (taken_first xs t), g.counted xs (taken_second xs t));
    shared = λ x y. omega (arith, f.shared x.0 y.0, g.shared x.1 y.1);
  }
