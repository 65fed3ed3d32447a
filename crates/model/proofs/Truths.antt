-- The theorem over whole runs, from what a recorder that is stepped exactly leaves and notes.
use Rattle.std.proofs.Common.{◌≡◌, ℕ, ◌<◌, List, length, take, Option, sym, ap, ◌∙◌, subst}
use Rattle.line.specs.Reply.{Reply, Bytes}
use Rattle.memory.specs.declared.event.JournalEntry.{JournalEntry}
use Rattle.recorder.specs.Seen.{seen}
use Rattle.recorder.specs.State.{State, made_state}
use Rattle.recorder.specs.declared.recorder.Recorder.{Recorder}
use Rattle.model.specs.declared.calls.Call.{Call}
use Rattle.model.specs.declared.calls.Outcome.{Outcome}
use Rattle.model.specs.Laws.{Counts, Replies}
use Rattle.model.specs.Model.{fresh}
use Rattle.model.specs.Runs.{story}
use Rattle.model.specs.Steps.{outcomes, run_after}
use Rattle.model.specs.Theorem.{Ran}
use Rattle.model.proofs.Counting.{counts}
use Rattle.model.proofs.Reading.{Carries, waits, replies_read}
use Rattle.model.proofs.Runs.{refines}

module _ {L : Type 0} (meaning : L → Reply) (wire : List ℕ → List ℕ) (accepted : List ℕ → Option (List ℕ)) (carried : Carries wire accepted)
    (serial : List ℕ) (cs : List Call) (start : State) (made : start ≡ made_state serial) where
  pub ran : (k : Recorder L) (log : List ℕ) (journal : List JournalEntry) (os : List Outcome)
      → os ≡ outcomes wire start cs → seen meaning k log journal ≡ run_after wire start cs
      → ((i : ℕ) → i < length cs → Bytes (run_after wire start (take i cs)).line.bytes)
      → Ran meaning wire accepted serial cs k log journal os
  ran k log journal os noting left held =
      let same : os ≡ story wire (fresh serial) cs = noting ∙ ap (λ (s : State). outcomes wire s cs) made ∙ (refines wire serial cs).noted in
      record {
        same = same;
        holds = left ∙ ap (λ (s : State). run_after wire s cs) made ∙ (refines wire serial cs).left;
        counts = subst Counts (sym same) (counts wire serial cs);
        waits = waits wire accepted serial cs;
        replies = subst (Replies wire accepted serial cs) (sym same) (
            replies_read wire accepted serial cs carried (λ i lt.
            subst (λ (s : State). Bytes s.line.bytes) (ap (λ (s : State). run_after wire s (take i cs)) made ∙ (refines wire serial (take i cs)).left) (held i lt))
            );
      }
