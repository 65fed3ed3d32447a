-- The journal: the last 16 events, event j, counted from 0, in entry j mod 16.
use Rattle.std.specs.Prelude.{◌≡◌, ℕ, ◌%◌, List, length}
use Rattle.ring.specs.History.{ring_of}
use Rattle.memory.specs.declared.event.EventKind.{EventKind}
use Rattle.memory.specs.declared.event.EventKind.TheVariants.{Unused, Start, Stop, StatusStop, Clear}
use Rattle.memory.specs.declared.event.JournalEntry.{JournalEntry}

-- The number that a reader of the journal sees for a kind of event.
abbrev pub kind_number : EventKind → ℕ
kind_number Unused = 0
kind_number Start = 1
kind_number Stop = 2
kind_number StatusStop = 3
kind_number Clear = 4

-- An entry that no event has been noted in yet.
abbrev pub blank_entry : JournalEntry
blank_entry = record { kind = Unused; address = 0; total = 0 }

-- What the journal holds after all events, oldest first.
abbrev pub journal_of : List JournalEntry → List JournalEntry
journal_of events = ring_of 16 blank_entry events

-- A lent memory and the stored place stand for the history of all events.
pub record JournalStands (events memory : List JournalEntry) (next : ℕ) : Type 0 where
  pub held : memory ≡ journal_of events
  pub place : next ≡ length events % 16
