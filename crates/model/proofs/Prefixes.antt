-- Runs of a recorder that are stepped exactly, call by call.
use Rattle.std.proofs.Common.{◌≡◌, ℕ, ◌+◌, ◌<◌, List, [], ◌∷◌, ◌++◌, length, get_or, take, set, sym, refl, ap, ◌∙◌, subst, inl, inr, arith}
use Rattle.std.proofs.lemmas.Bool.{cases_lt}
use Rattle.std.proofs.lemmas.List.{take_more, take_more_set}
use Rattle.line.specs.Reply.{Bytes}
use Rattle.recorder.specs.State.{State}
use Rattle.model.specs.declared.calls.Call.{Call}
use Rattle.model.specs.declared.calls.Outcome.{Outcome}
use Rattle.model.specs.Steps.{call_after, call_outcome, outcomes, run_after}

module _ (wire : List ℕ → List ℕ) where
  run_append : (s : State) (cs ds : List Call) → run_after wire s (cs ++ ds) ≡ run_after wire (run_after wire s cs) ds
  run_append s [] ds = refl
  run_append s (c ∷ cs) ds = run_append (call_after wire s c) cs ds

  outcomes_append : (s : State) (cs ds : List Call) → outcomes wire s (cs ++ ds) ≡ outcomes wire s cs ++ outcomes wire (run_after wire s cs) ds
  outcomes_append s [] ds = refl
  outcomes_append s (c ∷ cs) ds = ap (λ (os : List Outcome). call_outcome wire s c ∷ os) (outcomes_append (call_after wire s c) cs ds)

  -- After i of the calls: what is noted of each, where the recorder is, and that the line held bytes before each.
  pub record Reached (s : State) (cs : List Call) (i : ℕ) (reached : State) (os : List Outcome) : Type 0 where
    pub noted : take i os ≡ outcomes wire s (take i cs)
    pub left : reached ≡ run_after wire s (take i cs)
    pub bytes : (n : ℕ) → n < i → Bytes (run_after wire s (take n cs)).line.bytes

  pub reached_more : {s reached next : State} {cs : List Call} {os : List Outcome} {o : Outcome} (i : ℕ) (d : Call)
      → i < length cs → i < length os → Reached s cs i reached os → Bytes reached.line.bytes
      → o ≡ call_outcome wire reached (get_or cs i d) → next ≡ call_after wire reached (get_or cs i d)
      → Reached s cs (i + 1) next (set os i o)
  reached_more {s} {reached} {next} {cs} {os} {o} i d lt room before held noting stepping =
      let c = get_or cs i d in
      let now = run_after wire s (take i cs) in
      let here : Bytes now.line.bytes = subst (λ (x : State). Bytes x.line.bytes) before.left held in
      record {
        noted =
            take_more_set os i o room
            ∙ ap (λ (xs : List Outcome). xs ++ o ∷ []) before.noted
            ∙ ap (λ (x : Outcome). outcomes wire s (take i cs) ++ x ∷ []) (noting ∙ ap (λ (x : State). call_outcome wire x c) before.left)
            ∙ sym (outcomes_append s (take i cs) (c ∷ []))
            ∙ ap (outcomes wire s) (sym (take_more cs i d lt));
        left =
            stepping
            ∙ ap (λ (x : State). call_after wire x c) before.left
            ∙ sym (run_append s (take i cs) (c ∷ []))
            ∙ ap (run_after wire s) (sym (take_more cs i d lt));
        bytes = λ n small. elim (cases_lt n i) [
          | inl less ↦ before.bytes n less
          | inr more ↦ let same : i ≡ n = omega arith in subst (λ (k : ℕ). Bytes (run_after wire s (take k cs)).line.bytes) same here
        ];
      }
