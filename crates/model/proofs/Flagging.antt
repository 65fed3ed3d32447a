-- The law of limit flags.
use Rattle.std.proofs.Common.{◌≡◌, ℕ, zero, suc, ◌+◌, ◌<◌, ◌≤◌, true, ◌↔◌, List, length, get_or, sym, ◌∙◌, subst, inl, inr, add-one, arith, Option}
use Rattle.std.proofs.lemmas.Bool.{false≢true, cases_eq}
use Rattle.model.specs.declared.calls.Call.{Call}
use Rattle.model.specs.declared.calls.Call.TheVariants.{Gap}
use Rattle.model.specs.Model.{Model, fresh}
use Rattle.model.specs.Laws.{model_at}
use Rattle.model.specs.Flagging.{Channel, Side, Raises, Clears, Raised, Flags}
use Rattle.model.proofs.Cuts.{ends_take_more}
use Rattle.model.proofs.Flagged.{flag, Flagged, raised, lowered, kept, not_both, flagged}
use Rattle.model.proofs.Flags.{none_set}

module _ (wire : List ℕ → List ℕ) (accepted : List ℕ → Option (List ℕ)) (serial : List ℕ) (cs : List Call) (channel : Channel) (side : Side) where
  abbrev at : ℕ → Model
  at i = model_at wire accepted serial cs i

  abbrev Raising : ℕ → Type 0
  Raising i = Raises (at i) (get_or cs i Gap) (at (i + 1)) channel side

  abbrev Clearing : ℕ → Type 0
  Clearing i = Clears (at i) (get_or cs i Gap) channel side

  abbrev Told : ℕ → Type 0
  Told i = (flag channel side (at i) ≡ true) ↔ Raised wire accepted serial cs i channel side

  -- One more call that does not clear the flag, and one fewer.
  raised_more : (i : ℕ) → (Clearing i → ⊥) → Raised wire accepted serial cs i channel side → Raised wire accepted serial cs (i + 1) channel side
  raised_more i uncleared b = record {
    j = b.j;
    earlier = omega (arith, b.earlier);
    raises = b.raises;
    since = λ k l h. elim (cases_eq k i) [
      | inl last ↦ subst (λ n. Clearing n → ⊥) (sym last) uncleared
      | inr ne ↦ b.since k l (omega (arith, ne))
    ];
  }

  raised_fewer : (i : ℕ) (b : Raised wire accepted serial cs (i + 1) channel side) → (b.j ≡ i → ⊥) → Raised wire accepted serial cs i channel side
  raised_fewer i b ne = record {
    j = b.j;
    earlier = omega (arith, ne, b.earlier);
    raises = b.raises;
    since = λ k l h. b.since k l (omega arith);
  }

  told_more : (i : ℕ) → Flagged channel side (at i) (get_or cs i Gap) (at (i + 1)) → Told i → Told (i + 1)
  told_more i (raised r e) before =
      (λ _. record { j = i; earlier = omega arith; raises = r; since = λ k l h _. let z : ⊥ = omega arith in z }, λ _. e)
  told_more i (lowered c e) before = (
    λ t. absurd (false≢true (sym e ∙ t)),
    λ b. elim (cases_eq b.j i) [
      | inl last ↦ absurd (not_both channel side _ _ _ (subst Raising last b.raises) c)
      | inr ne ↦ absurd (b.since i (omega (arith, ne, b.earlier)) (omega arith) c)
    ],
  )
  told_more i (kept unraised uncleared e) before = (
    λ t. raised_more i uncleared (before.0 (sym e ∙ t)),
    λ b. elim (cases_eq b.j i) [
      | inl last ↦ absurd (unraised (subst Raising last b.raises))
      | inr ne ↦ e ∙ before.1 (raised_fewer i b ne)
    ],
  )

  told : (i : ℕ) → i ≤ length cs → Told i
  told zero le = (λ t. absurd (false≢true (sym (none_set channel side) ∙ t)), λ b. let z : ⊥ = omega (arith, b.earlier) in absurd z)
  told (suc i) le =
      let lt : i < length cs = omega arith in
      let d =
      subst (Flagged channel side (at i) (get_or cs i Gap)) (sym (ends_take_more wire i (fresh serial) cs lt))
      (flagged channel side wire (at i) (get_or cs i Gap)) in
      subst Told (add-one i) (told_more i d (told i (omega arith)))

-- Every run keeps the law of limit flags.
pub flags_told : (wire : List ℕ → List ℕ) (accepted : List ℕ → Option (List ℕ)) (serial : List ℕ) (cs : List Call) → Flags wire accepted serial cs
flags_told wire accepted serial cs i channel side le = told wire accepted serial cs channel side i le
