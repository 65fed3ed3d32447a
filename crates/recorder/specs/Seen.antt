-- What a recorder over any line holds, with the memories that it is lent.
use Rattle.std.specs.Prelude.{ℕ, List}
use Rattle.line.specs.Reply.{Reply}
use Rattle.memory.specs.declared.event.JournalEntry.{JournalEntry}
use Rattle.recorder.specs.declared.recorder.Recorder.{Recorder}
use Rattle.recorder.specs.Contents.{contents}
use Rattle.recorder.specs.State.{State, state}

module _ {L : Type 0} (meaning : L → Reply) where
  abbrev pub seen : Recorder L → List ℕ → List JournalEntry → State
  seen r log journal = state (contents r.chip log journal) (meaning r.line)
