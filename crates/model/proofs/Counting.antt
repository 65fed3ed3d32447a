-- The law of counts.
use Rattle.std.proofs.Common.{◌≡◌, ℕ, zero, suc, ◌-◌, ◌<◌, ◌≤◌, Bool, true, false, ◌&&◌, ◌||◌, ltb, ◌↔◌, List, [], ◌∷◌, length, get_or, take, drop, sym, refl, ap, ◌∙◌, subst, inl, inr, arith}
use Rattle.std.proofs.lemmas.Bool.{true≢false, false≢true, and_parts, or_cases, or_right, lt-ltb, le-ltb}
use Rattle.counter.specs.Counting.{counted}
use Rattle.model.specs.declared.calls.Call.{Call}
use Rattle.model.specs.declared.calls.Outcome.{Outcome}
use Rattle.model.specs.Model.{Model, fresh, total_of}
use Rattle.model.specs.Runs.{after, outcome, story, ends}
use Rattle.model.specs.Laws.{Counts, making, moments, current_at, total_at, took_set, cleared_sets, some_cleared, some_lost, following}
use Rattle.model.proofs.Balances.{Moved, one_taken, all_cleared, unmoved, moved, made_grows, Balance, Shows, outcome_shows, run_balance}
use Rattle.model.proofs.Cuts.{length_story, story_take, story_drop, ends_split}

-- ---- from no sets, a set is lost exactly where sets are cleared

lost_was_cleared : (o : Outcome) (os : List Outcome) → some_lost o os ≡ true → some_cleared o os ≡ true
lost_was_cleared o [] e = elim (false≢true e) [ ]
lost_was_cleared o (p ∷ os) e =
    let was_cleared : some_cleared p os ≡ true =
    elim (or_cases (took_set o p && some_cleared p os) (some_lost p os) e) [
      | inl both ↦ (and_parts (took_set o p) (some_cleared p os) both).1
      | inr later ↦ lost_was_cleared p os later
    ] in
    or_right (cleared_sets o p) (some_cleared p os) was_cleared

implied_adds_nothing : (x l : Bool) → (l ≡ true → x ≡ true) → (x || l) ≡ x
implied_adds_nothing true l h = refl
implied_adds_nothing false true h = sym (h refl)
implied_adds_nothing false false h = refl

module _ (current total : ℕ) (x l : Bool) (implied : l ≡ true → x ≡ true) where
  lost_step : (n k n' k' : ℕ) → Moved n k n' k' → current ≡ counted n → total ≡ counted k → n ≡ 0 → k' < 0xFFFFFF
      → (n' ≡ 0 → l ≡ x) → ((ltb total (counted k') && x) || l) ≡ (ltb (counted n') current || x)
  lost_step n k n' k' (one_taken en ek) ec et none top rest =
      let rose : ltb total (counted k') ≡ true = lt-ltb total (counted k') (omega arith) in
      let kept : ltb (counted n') current ≡ false = le-ltb (counted n') current (omega arith) in
      ap (λ b. (b && x) || l) rose ∙ implied_adds_nothing x l implied ∙ ap (λ b. b || x) (sym kept)
  lost_step n k n' k' (all_cleared en ek) ec et none top rest =
      let same : ltb total (counted k') ≡ false = le-ltb total (counted k') (omega arith) in
      let kept : ltb (counted n') current ≡ false = le-ltb (counted n') current (omega arith) in
      ap (λ b. (b && x) || l) same ∙ rest en ∙ ap (λ b. b || x) (sym kept)
  lost_step n k n' k' (unmoved en ek) ec et none top rest =
      let same : ltb total (counted k') ≡ false = le-ltb total (counted k') (omega arith) in
      let kept : ltb (counted n') current ≡ false = le-ltb (counted n') current (omega arith) in
      ap (λ b. (b && x) || l) same ∙ rest (en ∙ none) ∙ ap (λ b. b || x) (sym kept)

module _ (wire : List ℕ → List ℕ) where
  lost_is_cleared : (o : Outcome) (m : Model) (cs : List Call) → Shows o m → length m.sets ≡ 0 → (ends wire m cs).made < 0xFFFFFF
      → some_lost o (story wire m cs) ≡ some_cleared o (story wire m cs)
  lost_is_cleared o m [] s none top = refl
  lost_is_cleared o m (c ∷ cs) s none top =
      let x = after wire m c in
      let p = outcome wire m c in
      let os = story wire x cs in
      let below : x.made < 0xFFFFFF = omega (arith, made_grows wire x cs) in
      lost_step o.current o.total (some_cleared p os) (some_lost p os) (lost_was_cleared p os)
      (length m.sets) m.made (length x.sets) x.made (moved wire m c) s.current s.total none below
      (λ still. lost_is_cleared p x cs (outcome_shows wire m c) still top)

  -- Each moment of a run shows the counters of the model then.
  moments_show : (i : ℕ) (o : Outcome) (m : Model) (cs : List Call) → Shows o m → i ≤ length cs
      → Shows (get_or (o ∷ story wire m cs) i making) (ends wire m (take i cs))
  moments_show zero o m cs s le = s
  moments_show (suc i) o m [] s le = let z : ⊥ = omega arith in elim z [ ]
  moments_show (suc i) o m (c ∷ cs) s le = moments_show i (outcome wire m c) (after wire m c) cs (outcome_shows wire m c) (omega arith)

-- ---- the law

counters_agree : (cleared : Bool) (n k n' k' : ℕ) → Balance cleared n k n' k' → counted n ≡ 0 → counted k' < 0xFFFFFF
    → (counted n' ≡ counted k' - counted k) ↔ (cleared ≡ false)
counters_agree true n k n' k' b none top = (λ e. let z : ⊥ = omega (arith, b.fewer refl) in elim z [ ], λ e. elim (true≢false e) [ ])
counters_agree false n k n' k' b none top = (λ _. refl, λ _. omega (arith, b.level refl))

module _ (wire : List ℕ → List ℕ) (serial : List ℕ) (cs : List Call) (i j : ℕ) (le : i ≤ j) (within : j ≤ length cs) where
  abbrev os : List Outcome
  os = story wire (fresh serial) cs

  abbrev first : Model
  first = ends wire (fresh serial) (take i cs)

  abbrev last : Model
  last = ends wire first (take (j - i) (drop i cs))

  abbrev moment : ℕ → Outcome
  moment n = get_or (moments os) n making

  first_shown : Shows (moment i) first
  first_shown = moments_show wire i making (fresh serial) cs (record { current = refl; total = refl }) (omega arith)

  last_shown : Shows (moment j) last
  last_shown =
      subst (Shows (moment j)) (ends_split wire i j (fresh serial) cs le)
      (moments_show wire j making (fresh serial) cs (record { current = refl; total = refl }) within)

  following_is : following i j os ≡ story wire first (take (j - i) (drop i cs))
  following_is = ap (take (j - i)) (story_drop wire i (fresh serial) cs) ∙ story_take wire (j - i) first (drop i cs)

  grown_is : total_at os j - total_at os i ≡ total_of last - total_of first
  grown_is = ap (λ n. n - total_at os i) last_shown.total ∙ ap (λ n. total_of last - n) first_shown.total

  counts_between : current_at os i ≡ 0 → total_at os j < 0xFFFFFF
      → (current_at os j ≡ total_at os j - total_at os i) ↔ (some_lost (moment i) (following i j os) ≡ false)
  counts_between z f =
      let part = take (j - i) (drop i cs) in
      let empty : counted (length first.sets) ≡ 0 = sym first_shown.current ∙ z in
      let below : counted last.made < 0xFFFFFF = subst (λ n. n < 0xFFFFFF) last_shown.total f in
      let lost : some_lost (moment i) (following i j os) ≡ some_cleared (moment i) (story wire first part) =
      ap (some_lost (moment i)) following_is ∙ lost_is_cleared wire (moment i) first part first_shown (omega arith) (omega arith) in
      let agree = counters_agree _ _ _ _ _ (run_balance wire (moment i) first part first_shown) empty below in (
        λ e. lost ∙ agree.0 (sym last_shown.current ∙ e ∙ grown_is),
        λ e. last_shown.current ∙ agree.1 (sym lost ∙ e) ∙ sym grown_is,
      )

-- Every run keeps the law of counts.
pub counts : (wire : List ℕ → List ℕ) (serial : List ℕ) (cs : List Call) → Counts (story wire (fresh serial) cs)
counts wire serial cs i j le lt z f =
    counts_between wire serial cs i j le (subst (λ n. j ≤ n) (length_story wire (fresh serial) cs) lt) z f
