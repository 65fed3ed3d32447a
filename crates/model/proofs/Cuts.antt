-- Runs that are cut in two, and one more call of a run.
use Rattle.std.proofs.Common.{◌≡◌, ℕ, zero, suc, ◌+◌, ◌-◌, ◌<◌, ◌≤◌, List, [], ◌∷◌, ◌++◌, length, get_or, take, drop, sym, refl, ap, ◌∙◌, arith}
use Rattle.std.proofs.lemmas.List.{take-append-drop, take_more, take-take}
use Rattle.std.proofs.lemmas.Slice.{between_is}
use Rattle.model.specs.declared.calls.Call.{Call}
use Rattle.model.specs.declared.calls.Call.TheVariants.{Gap}
use Rattle.model.specs.declared.calls.Outcome.{Outcome}
use Rattle.model.specs.Model.{Model}
use Rattle.model.specs.Runs.{after, outcome, story, ends}

take_split : {X : Type 0} (i j : ℕ) (xs : List X) → i ≤ j → take j xs ≡ take i xs ++ take (j - i) (drop i xs)
take_split i j xs le =
    sym (take-append-drop i (take j xs)) ∙ ap (λ ys. ys ++ drop i (take j xs)) (take-take i j xs le)
    ∙ ap (λ ys. take i xs ++ ys) (sym (between_is xs i j))

module _ (wire : List ℕ → List ℕ) where
  pub length_story : (m : Model) (cs : List Call) → length (story wire m cs) ≡ length cs
  length_story m [] = refl
  length_story m (c ∷ cs) = ap suc (length_story (after wire m c) cs)

  pub story_take : (n : ℕ) (m : Model) (cs : List Call) → take n (story wire m cs) ≡ story wire m (take n cs)
  story_take zero m cs = refl
  story_take (suc n) m [] = refl
  story_take (suc n) m (c ∷ cs) = ap (λ os. outcome wire m c ∷ os) (story_take n (after wire m c) cs)

  pub story_drop : (n : ℕ) (m : Model) (cs : List Call)
      → drop n (story wire m cs) ≡ story wire (ends wire m (take n cs)) (drop n cs)
  story_drop zero m cs = refl
  story_drop (suc n) m [] = refl
  story_drop (suc n) m (c ∷ cs) = story_drop n (after wire m c) cs

  pub story_at : (i : ℕ) (m : Model) (cs : List Call) (d : Outcome) → i < length cs
      → get_or (story wire m cs) i d ≡ outcome wire (ends wire m (take i cs)) (get_or cs i Gap)
  story_at i m [] d lt = let z : ⊥ = omega arith in elim z [ ]
  story_at zero m (c ∷ cs) d lt = refl
  story_at (suc i) m (c ∷ cs) d lt = story_at i (after wire m c) cs d (omega arith)

  ends_append : (m : Model) (cs ds : List Call) → ends wire m (cs ++ ds) ≡ ends wire (ends wire m cs) ds
  ends_append m [] ds = refl
  ends_append m (c ∷ cs) ds = ends_append (after wire m c) cs ds

  pub ends_take_more : (i : ℕ) (m : Model) (cs : List Call) → i < length cs
      → ends wire m (take (i + 1) cs) ≡ after wire (ends wire m (take i cs)) (get_or cs i Gap)
  ends_take_more i m cs lt = ap (ends wire m) (take_more cs i Gap lt) ∙ ends_append m (take i cs) (get_or cs i Gap ∷ [])

  pub ends_split : (i j : ℕ) (m : Model) (cs : List Call) → i ≤ j
      → ends wire m (take j cs) ≡ ends wire (ends wire m (take i cs)) (take (j - i) (drop i cs))
  ends_split i j m cs le = ap (ends wire m) (take_split i j cs le) ∙ ends_append m (take i cs) (take (j - i) (drop i cs))
