use Rattle.std.proofs.Common.{◌≡◌, List, [], ◌∷◌, length, replicate, refl, ap, ◌∙◌, rules}
use Rattle.std.specs.List.{FoldsTo}
use Rattle.rows.proofs.edits.blank_all.Goals as goal

-- what a call that answers v each time folds to
all_same : {P A : Type 0} (R : P → A → P → Type 0) (J : P → Type 0) (v : A) → ((p : P) (x : A) (q : P) → J p → R p x q → (x ≡ v) × J q) → (p : P) (xs : List A) (q : P) → J p → FoldsTo R p xs q → xs ≡ replicate (length xs) v
all_same R J v same p [] q j f = refl
all_same R J v same p (x ∷ xs) q j f = ap (λ y. y ∷ xs) (same p x f.0 j f.1).0 ∙ ap (λ ys. v ∷ ys) (all_same R J v same f.0 xs q (same p x f.0 j f.1).1 f.2)

pub returns : goal.returns
returns g c = all_same _ (λ p. p.0.now ≡ c.args.blank) c.args.blank (λ p x q j r. (search rules, search rules)) _ c.fill_with.new.self c.fill_with.ensures.ran.0 (search rules) c.fill_with.ensures.ran.1 ∙ ap (λ n. replicate n c.args.blank) c.fill_with.ensures.len
