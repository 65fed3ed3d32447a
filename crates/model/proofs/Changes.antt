-- Starts, stops, clears and samples of what stands for a model.
use Rattle.std.proofs.Common.{◌≡◌, ℕ, ◌+◌, ◌%◌, ◌≤◌, Bool, true, false, List, [], ◌∷◌, ◌++◌, length, Some, None, Option, sym, refl, ap, ◌∙◌}
use Rattle.counter.specs.Counting.{counted}
use Rattle.memory.specs.Events.{journal_of}
use Rattle.memory.specs.declared.event.EventKind.{EventKind}
use Rattle.memory.specs.declared.event.EventKind.TheVariants.{Start, Clear}
use Rattle.memory.specs.declared.event.JournalEntry.{JournalEntry}
use Rattle.mission.specs.Channels.{any_on}
use Rattle.mission.specs.PerChannel.{Codes}
use Rattle.record.specs.Contents.{Contents as Record, cleared as cleared_record}
use Rattle.record.specs.Histories.{record_of}
use Rattle.record.proofs.Records.{record_none, record_more}
use Rattle.record.specs.Sets.{SampleSet, Rules}
use Rattle.registers.specs.Contents.{Contents as Registers}
use Rattle.registers.specs.Steps.{start_after, clear_after}
use Rattle.recorder.specs.Contents.{Contents, with_registers, with_mission}
use Rattle.recorder.specs.Control.{Running, entry, rules_by, running_by, stop_kind}
use Rattle.recorder.specs.Events.{noted, started, stopped, emptied, cleared_all}
use Rattle.recorder.specs.Seconds.{sampled, sampled_registers, set_at}
use Rattle.recorder.specs.State.{state}
use Rattle.model.specs.Model.{Model, plan_by, total_of}
use Rattle.model.specs.Rules.{started as model_started, stopped as model_stopped, cleared as model_cleared, sampled as model_sampled}
use Rattle.model.specs.Stand.{running_at, contents_of, stand}
use Rattle.model.proofs.Parts.{counted_more, journal_more, place_more, log_length, running_none}

-- An event is noted where the journal stands for the events so far.
module _ (c : Contents) (events : List JournalEntry) (kind : EventKind) (address : ℕ) where
  abbrev event : JournalEntry
  event = entry kind address c.total

  -- The same contents with another place and journal.
  abbrev journal_put : ℕ → List JournalEntry → Contents
  journal_put place journal = record {
    registers = c.registers;
    received = c.received;
    sensing = c.sensing;
    mission = c.mission;
    recorded = c.recorded;
    total = c.total;
    place = place;
    journal = journal;
  }

  noted_more : c.place ≡ length events % 16 → c.journal ≡ journal_of events
      → noted c kind address ≡ journal_put (length (events ++ event ∷ []) % 16) (journal_of (events ++ event ∷ []))
  noted_more p j = rw (p, j, place_more events event, journal_more events event)

module _ (m : Model) where
  -- The same model, in a mission or not.
  abbrev pub set_running : Bool → Model
  set_running b = record {
    registers = m.registers;
    received = m.received;
    sensing = m.sensing;
    in_mission = b;
    plan = m.plan;
    k = m.k;
    line = m.line;
    events = m.events;
    sets = m.sets;
    made = m.made;
  }

  stopped_as : (b : Bool) (address : ℕ)
      → state (stopped (contents_of (set_running b)) address) m.line ≡ stand (model_stopped (set_running b) address)
  stopped_as true address =
      ap (λ (c : Contents). state c m.line)
      (noted_more (with_mission (contents_of (set_running true)) None) m.events (stop_kind address) address refl refl)
  stopped_as false address = refl

pub stopped_stands : (m : Model) (address : ℕ) → state (stopped (contents_of m) address) m.line ≡ stand (model_stopped m address)
stopped_stands m address = stopped_as m m.in_mission address

-- With no set it does not matter by which rules sets are recorded.
unrecorded : (p q : Rules) (sets : List SampleSet) → sets ≡ [] → record_of p sets ≡ record_of q sets
unrecorded p q sets e = ap (record_of p) e ∙ record_none p ∙ sym (record_none q) ∙ ap (record_of q) (sym e)

emptied_record : (p : Rules) (sets : List SampleSet) → cleared_record (length (record_of p sets).memory) ≡ record_of p []
emptied_record p sets = ap cleared_record (log_length p sets) ∙ sym (record_none p)

module _ (m : Model) where
  -- What stands for the model, with other registers and another mission, record, total, place and journal.
  abbrev held_with : Registers → Option Running → Record → ℕ → List JournalEntry → Contents
  held_with registers mission recorded total events = record {
    registers = registers;
    received = m.received;
    sensing = m.sensing;
    mission = mission;
    recorded = recorded;
    total = total;
    place = length events % 16;
    journal = journal_of events;
  }

  pub started_stands : (address : ℕ) → m.sets ≡ [] → state (started (contents_of m) address) m.line ≡ stand (model_started m address)
  started_stands address e =
      let r = m.registers in
      let events = m.events ++ entry Start address (total_of m) ∷ [] in
      ap (λ (c : Contents). state c m.line) (
      noted_more (with_mission (with_registers (contents_of m) (start_after r)) (Some (running_by r))) m.events Start address refl refl
      ∙ ap (λ (running : Running). held_with (start_after r) (Some running) (record_of m.plan.rules m.sets) (total_of m) events) (running_none r)
      ∙ ap (λ (recorded : Record). held_with (start_after r) (Some (running_at (plan_by r) 0)) recorded (total_of m) events)
      (unrecorded m.plan.rules (rules_by r) m.sets e)
      )

  pub cleared_stands : state (cleared_all (contents_of m)) m.line ≡ stand (model_cleared m)
  cleared_stands =
      let events = m.events ++ entry Clear 0 (total_of m) ∷ [] in
      ap (λ (c : Contents). state c m.line) (
      noted_more (emptied (contents_of m)) m.events Clear 0 refl refl
      ∙ ap (λ (recorded : Record). held_with (clear_after m.registers) None recorded (total_of m) events) (emptied_record m.plan.rules m.sets)
      )

  pub sampled_stands : (codes : Codes) → any_on m.plan.rules.channels ≡ true → codes.temperature ≤ 250
      → state (sampled (contents_of m) m.plan.rules codes) m.line ≡ stand (model_sampled m codes)
  sampled_stands codes on low =
      let registers = sampled_registers m.registers m.plan.rules codes in
      let mission = (contents_of m).mission in
      let set = set_at (contents_of m) codes in
      ap (λ (c : Contents). state c m.line) (
      ap (λ (recorded : Record). held_with registers mission recorded (counted (counted m.made + 1)) m.events) (record_more m.plan.rules m.sets set on low)
      ∙ ap (λ (total : ℕ). held_with registers mission (record_of m.plan.rules (m.sets ++ set ∷ [])) total m.events) (counted_more m.made)
      )
