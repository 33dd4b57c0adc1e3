-- Pages written from tallies stay so.
use Rattle.std.proofs.Common.{◌≡◌, ℕ, ◌+◌, Bool, true, false, cond, ltb, List, [], ◌∷◌, ◌++◌, length, take, drop, set, sym, subst}
use Rattle.rows.specs.Pages.{moved_up, taken_out}
use Rattle.std.proofs.ByRecursion.{All-set, All-append, All-take, All-drop}
use Rattle.rows.specs.declared.page.Page.{Page}
use Rattle.bench.specs.Ledger.{Sound}

module _ {X : Type 0} (st : X → Bool) where
  pub sound_set : (ps qs : List (Page X)) (i : ℕ) (p : Page X) → qs ≡ set ps i p → st p.numbers ≡ true → Sound st ps → Sound st qs
  sound_set ps qs i p e h s = subst (Sound st) (sym e) (All-set (λ p. st p.numbers ≡ true) ps i p h s)

  pub sound_out : (ps qs : List (Page X)) (i : ℕ) (p : Page X) → qs ≡ taken_out i p ps → st p.numbers ≡ true → Sound st ps → Sound st qs
  sound_out ps qs i p e h s = subst (Sound st) (sym e) (either (ltb i (length ps)))
    where
      moved : Sound st (moved_up i p ps)
      moved =
          let P : Page X → Type 0 = λ p. st p.numbers ≡ true in
          All-append P (take i ps ++ drop (i + 1) ps) (p ∷ []) (All-append P (take i ps) (drop (i + 1) ps) (All-take P i ps s) (All-drop P (i + 1) ps s)) (h, tt)

      either : (b : Bool) → Sound st (cond b (moved_up i p ps) ps)
      either true = moved
      either false = s
