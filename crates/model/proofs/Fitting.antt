-- Calls that can be performed, one after the other.
use Rattle.std.proofs.Common.{◌≡◌, ℕ, zero, suc, ◌<◌, Bool, true, false, List, [], ◌∷◌, length, get_or, MatchBool, sym, refl, ap, ◌∙◌, arith}
use Rattle.std.specs.List.{AllByRecursion, AllWithin, HoldsAt}
use Rattle.std.proofs.lemmas.Bool.{false≢true, false_from_ne_true, both_ways, and_from, and_parts}
use Rattle.model.specs.declared.calls.Call.{Call}
use Rattle.model.specs.declared.calls.Call.TheVariants.{Gap}
use Rattle.model.specs.Fits.{Narrow, fits, all_fit}

module _ (l j : ℕ) where
  pub fit_at : (cs : List Call) (i : ℕ) (d : Call) → i < length cs → all_fit l j cs ≡ true → fits l j (get_or cs i d) ≡ true
  fit_at [] i d h e = absurd (omega arith)
  fit_at (c ∷ cs) zero d h e = (and_parts (fits l j c) (all_fit l j cs) e).0
  fit_at (c ∷ cs) (suc i) d h e = fit_at cs i d (omega arith) (and_parts (fits l j c) (all_fit l j cs) e).1

-- One of the calls, with spare memories as long as those at the start.
pub fit_lent : {l j l' j' : ℕ} (cs : List Call) (i : ℕ) (d : Call) → l' ≡ l → j' ≡ j → i < length cs → all_fit l j cs ≡ true → fits l' j' (get_or cs i d) ≡ true
fit_lent {l} {j} {l'} {j'} cs i d same_log same_journal h e =
    ap (λ (n : ℕ). fits n j' (get_or cs i d)) same_log ∙ ap (λ (n : ℕ). fits l n (get_or cs i d)) same_journal ∙ fit_at l j cs i d h e

-- What each call tells that fits, and all of them.
module _ (l j : ℕ) where
  abbrev pub Fitting : Call → Type 0
  Fitting c = (fits l j c ≡ true) × Narrow c

  abbrev pub Unfit : Call → Type 0
  Unfit c = fits l j c ≡ false

  all_fitting : (cs : List Call) → AllWithin Fitting cs 0 (length cs) → (all_fit l j cs ≡ true) × AllByRecursion Narrow cs
  all_fitting [] each = (refl, tt)
  all_fitting (c ∷ cs) each =
      let first = each 0 c (omega arith) (omega arith) in
      let rest = all_fitting cs (λ k d _ lt. each (suc k) d (omega arith) (omega arith)) in
      (and_from (fits l j c) (all_fit l j cs) first.0 rest.0, (first.1, rest.1))

  one_unfit : (cs : List Call) (k : ℕ) → k < length cs → HoldsAt Unfit cs k → all_fit l j cs ≡ false
  one_unfit cs k lt unfit = false_from_ne_true _ (λ e. both_ways _ (unfit Gap) (fit_at l j cs k Gap lt e))

  pub told : (cs : List Call) (r : Bool) → MatchBool r (AllWithin Fitting cs 0 (length cs)) ((k : ℕ) × (k < length cs) × HoldsAt Unfit cs k)
      → (r ≡ all_fit l j cs) × (r ≡ true → AllByRecursion Narrow cs)
  told cs true each = let all = all_fitting cs each in (sym all.0, λ _. all.1)
  told cs false one = (sym (one_unfit cs one.0 one.1 one.2), λ e. absurd (false≢true e))
