-- What the two counters tell of the sets: of one call, and of a run.
use Rattle.std.proofs.Common.{◌≡◌, ℕ, ◌+◌, ◌<◌, ◌≤◌, Bool, true, false, ◌||◌, ltb, List, [], ◌∷◌, length, sym, refl, ap, ◌∙◌, subst, arith}
use Rattle.std.proofs.lemmas.List.{length_push}
use Rattle.std.proofs.lemmas.Bool.{true≢false, false≢true, ltb-true, ltb-false}
use Rattle.counter.specs.Counting.{counted}
use Rattle.model.specs.declared.calls.Call.{Call}
use Rattle.model.specs.declared.calls.Outcome.{Outcome}
use Rattle.model.specs.Model.{Model, current_of, total_of}
use Rattle.model.specs.Runs.{after, outcome, story, ends}
use Rattle.model.specs.Laws.{cleared_sets, some_cleared}
use Rattle.model.proofs.Effects.{Did, kept, took, wiped, sent, gave, did}

-- ---- one call

-- There were n sets of k that were made, and then n' of k': one was taken, all were cleared, or neither.
pub data Moved (n k n' k' : ℕ) : Type 0 where
  one_taken : n' ≡ n + 1 → k' ≡ k + 1 → Moved n k n' k'
  all_cleared : n' ≡ 0 → k' ≡ k → Moved n k n' k'
  unmoved : n' ≡ n → k' ≡ k → Moved n k n' k'

abbrev MovedTo : Model → Model → Type 0
MovedTo m x = Moved (length m.sets) m.made (length x.sets) x.made

did_moved : (m : Model) (c : Call) (x : Model) → Did m c x → MovedTo m x
did_moved m c x (kept k) = unmoved (ap length k.sets) k.made
did_moved m c x (took set brought sets made line) = one_taken (ap length sets ∙ length_push m.sets set) made
did_moved m c x (wiped sets made line) = all_cleared (ap length sets) made
did_moved m c x (sent sets made s) = unmoved (ap length sets) made
did_moved m c x (gave sets made line) = unmoved (ap length sets) made

made_rises : {n k n' k' : ℕ} → Moved n k n' k' → k ≤ k'
made_rises (one_taken en ek) = omega arith
made_rises (all_cleared en ek) = omega arith
made_rises (unmoved en ek) = omega arith

-- Where sets were cleared fewer are left than were there or made since, and else as many.
pub record Balance (cleared : Bool) (n k n' k' : ℕ) : Type 0 where
  pub fewer : cleared ≡ true → n' + k < n + k'
  pub level : cleared ≡ false → n' + k ≡ n + k'

-- Current fell exactly where sets were cleared.
moved_balance : (n k n' k' : ℕ) → Moved n k n' k' → Balance (ltb (counted n') (counted n)) n k n' k'
moved_balance n k n' k' (one_taken en ek) =
    record { fewer = λ e. omega (arith, ltb-true (counted n') (counted n) e); level = λ e. omega arith }
moved_balance n k n' k' (all_cleared en ek) =
    record {
      fewer = λ e. omega (arith, ltb-true (counted n') (counted n) e);
      level = λ e. omega (arith, ltb-false (counted n') (counted n) e);
    }
moved_balance n k n' k' (unmoved en ek) =
    record { fewer = λ e. omega (arith, ltb-true (counted n') (counted n) e); level = λ e. omega arith }

balance_joined : (t u : Bool) (n k n' k' n'' k'' : ℕ) → Balance t n k n' k' → Balance u n' k' n'' k'' → Balance (t || u) n k n'' k''
balance_joined true true n k n' k' n'' k'' b d =
    record { fewer = λ _. omega (arith, b.fewer refl, d.fewer refl); level = λ e. elim (true≢false e) [ ] }
balance_joined true false n k n' k' n'' k'' b d =
    record { fewer = λ _. omega (arith, b.fewer refl, d.level refl); level = λ e. elim (true≢false e) [ ] }
balance_joined false true n k n' k' n'' k'' b d =
    record { fewer = λ _. omega (arith, b.level refl, d.fewer refl); level = λ e. elim (true≢false e) [ ] }
balance_joined false false n k n' k' n'' k'' b d =
    record { fewer = λ e. elim (false≢true e) [ ]; level = λ _. omega (arith, b.level refl, d.level refl) }

-- ---- runs

-- A moment shows the counters of a model.
pub record Shows (o : Outcome) (m : Model) : Type 0 where
  pub current : o.current ≡ current_of m
  pub total : o.total ≡ total_of m

module _ (wire : List ℕ → List ℕ) where
  pub moved : (m : Model) (c : Call) → MovedTo m (after wire m c)
  moved m c = did_moved m c (after wire m c) (did wire m c)

  pub made_grows : (m : Model) (cs : List Call) → m.made ≤ (ends wire m cs).made
  made_grows m [] = omega arith
  made_grows m (c ∷ cs) = omega (arith, made_rises (moved m c), made_grows (after wire m c) cs)

  pub outcome_shows : (m : Model) (c : Call) → Shows (outcome wire m c) (after wire m c)
  outcome_shows m c = record { current = refl; total = refl }

  pub run_balance : (o : Outcome) (m : Model) (cs : List Call) → Shows o m
      → Balance (some_cleared o (story wire m cs)) (length m.sets) m.made (length (ends wire m cs).sets) (ends wire m cs).made
  run_balance o m [] s = record { fewer = λ e. elim (false≢true e) [ ]; level = λ _. refl }
  run_balance o m (c ∷ cs) s =
      let x = after wire m c in
      let one : Balance (cleared_sets o (outcome wire m c)) (length m.sets) m.made (length x.sets) x.made =
      subst (λ n. Balance (ltb (current_of x) n) (length m.sets) m.made (length x.sets) x.made)
      (sym s.current) (moved_balance _ _ _ _ (moved m c)) in
      balance_joined _ _ _ _ _ _ _ _ one (run_balance (outcome wire m c) x cs (outcome_shows m c))
