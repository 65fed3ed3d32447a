-- The theorem over whole runs: no recorder lies.
use Rattle.std.specs.Prelude.{◌≡◌, ℕ, List, Option}
use Rattle.line.specs.Reply.{Reply}
use Rattle.memory.specs.declared.event.JournalEntry.{JournalEntry}
use Rattle.recorder.specs.Seen.{seen}
use Rattle.recorder.specs.declared.recorder.Recorder.{Recorder}
use Rattle.model.specs.declared.calls.Call.{Call}
use Rattle.model.specs.declared.calls.Outcome.{Outcome}
use Rattle.model.specs.Laws.{Counts, Waits, Replies}
use Rattle.model.specs.Model.{fresh}
use Rattle.model.specs.Runs.{ends, story}
use Rattle.model.specs.Stand.{stand}

-- A recorder with this serial number, over a line with this meaning, these wire bytes and this far-end check, was made, and each of the calls was
-- performed on it. It is the recorder k now; its memories are log and journal; and os is what was noted of each call.
pub record Ran {L : Type 0} (meaning : L → Reply) (wire : List ℕ → List ℕ) (accepted : List ℕ → Option (List ℕ))
    (serial : List ℕ) (cs : List Call) (k : Recorder L) (log : List ℕ) (journal : List JournalEntry) (os : List Outcome) : Type 0 where
  -- Every answer, refusal and counter is the model's.
  pub same : os ≡ story wire (fresh serial) cs
  -- What the recorder holds at the end, with both memories and its line's meaning, stands for the model.
  pub holds : seen meaning k log journal ≡ stand (ends wire (fresh serial) cs)
  -- Between any two moments, Current and Total tell whether sets were lost.
  pub counts : Counts os
  -- An accepted read leaves its page waiting.
  pub waits : Waits wire accepted serial cs
  -- Each reply that was collected is accepted at the far end, and reads as the page was just after the read.
  pub replies : Replies wire accepted serial cs os
