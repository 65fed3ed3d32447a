-- Whole runs of a recorder are the runs of the model.
use Rattle.std.proofs.Common.{◌≡◌, ℕ, false, List, [], ◌∷◌, replicate, None, sym, refl, ap, ◌∙◌}
use Rattle.line.specs.Reply.{emptied}
use Rattle.memory.specs.Events.{blank_entry}
use Rattle.memory.specs.declared.event.JournalEntry.{JournalEntry}
use Rattle.record.specs.Contents.{Contents as Record}
use Rattle.record.specs.Histories.{record_of}
use Rattle.record.proofs.Records.{record_none}
use Rattle.registers.specs.Contents.{new_contents}
use Rattle.recorder.specs.Control.{rules_by}
use Rattle.recorder.specs.State.{State, state, made_state}
use Rattle.model.specs.Answers.{Answer}
use Rattle.model.specs.declared.calls.Call.{Call}
use Rattle.model.specs.declared.calls.Outcome.{Outcome}
use Rattle.model.specs.Model.{Model, fresh}
use Rattle.model.specs.Runs.{after, answer, wire_noted, outcome, story, ends}
use Rattle.model.proofs.Invariants.{Refines, Sound}
use Rattle.model.specs.Stand.{stand}
use Rattle.model.specs.Steps.{call_after, call_wire, call_outcome, outcomes, run_after}
use Rattle.model.proofs.Answering.{answer_stands, wire_stands}
use Rattle.model.proofs.Calling.{after_stands, after_sound}
use Rattle.model.proofs.Parts.{journal_none}
use Rattle.model.proofs.Sounds.{fresh_sound}

-- A recorder as it is made, with its record and its journal.
abbrev made_with : List ℕ → Record → List JournalEntry → State
made_with serial recorded journal = state (record {
  registers = new_contents serial;
  received = [];
  sensing = false;
  mission = None;
  recorded = recorded;
  total = 0;
  place = 0;
  journal = journal;
}) emptied

pub fresh_stands : (serial : List ℕ) → made_state serial ≡ stand (fresh serial)
fresh_stands serial =
    ap (λ (recorded : Record). made_with serial recorded (replicate 16 blank_entry)) (sym (record_none (rules_by (new_contents serial))))
    ∙ ap (λ (journal : List JournalEntry). made_with serial (record_of (rules_by (new_contents serial)) []) journal) (sym journal_none)

module _ (wire : List ℕ → List ℕ) where
  -- What is noted of a call, by its answer, its wire bytes and what it leaves.
  abbrev noted : Answer → List ℕ → State → Outcome
  noted a bytes s = record { answer = a; wire = bytes; current = s.contents.recorded.current; total = s.contents.total }

  pub outcome_stands : (m : Model) (c : Call) → Sound m → call_outcome wire (stand m) c ≡ outcome wire m c
  outcome_stands m c s =
      ap (λ (a : Answer). noted a (call_wire wire (stand m) c) (call_after wire (stand m) c)) (answer_stands wire m c)
      ∙ ap (λ (bytes : List ℕ). noted (answer wire m c) bytes (call_after wire (stand m) c)) (wire_stands wire m c)
      ∙ ap (λ (left : State). noted (answer wire m c) (wire_noted wire m c) left) (after_stands wire m c s)

  pub story_stands : (m : Model) (cs : List Call) → Sound m → outcomes wire (stand m) cs ≡ story wire m cs
  story_stands m [] s = refl
  story_stands m (c ∷ cs) s =
      ap (λ (o : Outcome). o ∷ outcomes wire (call_after wire (stand m) c) cs) (outcome_stands m c s)
      ∙ ap (λ (left : State). outcome wire m c ∷ outcomes wire left cs) (after_stands wire m c s)
      ∙ ap (λ (os : List Outcome). outcome wire m c ∷ os) (story_stands (after wire m c) cs (after_sound wire m c s))

  pub ends_stands : (m : Model) (cs : List Call) → Sound m → run_after wire (stand m) cs ≡ stand (ends wire m cs)
  ends_stands m [] s = refl
  ends_stands m (c ∷ cs) s =
      ap (λ (left : State). run_after wire left cs) (after_stands wire m c s)
      ∙ ends_stands (after wire m c) cs (after_sound wire m c s)

pub ends_sound : (wire : List ℕ → List ℕ) (m : Model) (cs : List Call) → Sound m → Sound (ends wire m cs)
ends_sound wire m [] s = s
ends_sound wire m (c ∷ cs) s = ends_sound wire (after wire m c) cs (after_sound wire m c s)

pub refines : (wire : List ℕ → List ℕ) (serial : List ℕ) (calls : List Call) → Refines wire serial calls
refines wire serial calls = record {
  made = fresh_stands serial;
  noted = ap (λ (s : State). outcomes wire s calls) (fresh_stands serial) ∙ story_stands wire (fresh serial) calls (fresh_sound serial);
  left = ap (λ (s : State). run_after wire s calls) (fresh_stands serial) ∙ ends_stands wire (fresh serial) calls (fresh_sound serial);
  sound = ends_sound wire (fresh serial) calls (fresh_sound serial);
}
