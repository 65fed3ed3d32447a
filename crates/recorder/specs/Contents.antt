-- What a recorder holds besides its line, together with the two memories that it is lent.
use Rattle.std.specs.Prelude.{ℕ, Bool, false, List, [], length, replicate, is_some, None, Option}
use Rattle.memory.specs.Events.{blank_entry}
use Rattle.memory.specs.Serving.{serves}
use Rattle.memory.specs.declared.event.JournalEntry.{JournalEntry}
use Rattle.record.specs.Contents.{Contents as Record, seen as record_seen, empty_over}
use Rattle.registers.specs.Contents.{Contents as Registers, new_contents}
use Rattle.recorder.specs.declared.chip.Chip.{Chip}
use Rattle.recorder.specs.Control.{Controls, Running, controls}

pub record Contents : Type 0 where
  pub registers : Registers
  -- the command so far
  pub received : List ℕ
  -- the sensors are to be read at the next second
  pub sensing : Bool
  pub mission : Option Running
  -- the record, with the log's memory
  pub recorded : Record
  pub total : ℕ
  -- the place of the next event, and the journal's memory
  pub place : ℕ
  pub journal : List JournalEntry

-- The controls and the record make up the contents, and are their parts.
abbrev pub joined : Controls → Record → Contents
joined c recorded = record {
  registers = c.registers;
  received = c.received;
  sensing = c.sensing;
  mission = c.mission;
  recorded = recorded;
  total = c.total;
  place = c.place;
  journal = c.journal;
}

abbrev pub controls_of : Contents → Controls
controls_of c = record {
  registers = c.registers;
  received = c.received;
  sensing = c.sensing;
  mission = c.mission;
  total = c.total;
  place = c.place;
  journal = c.journal;
}

-- What a chip holds, over the memories that it is lent.
abbrev pub contents : Chip → List ℕ → List JournalEntry → Contents
contents c log journal = joined (controls c.control journal) (record_seen c.record log)

-- A mission is in progress.
abbrev pub in_mission : Contents → Bool
in_mission c = is_some c.mission

-- The memories have the right lengths.
abbrev pub whole_memories : Contents → Bool
whole_memories c = serves (length c.recorded.memory) (length c.journal)

-- A recorder as it is made, over these memories: nothing has happened.
abbrev pub made_over : List ℕ → List ℕ → List JournalEntry → Contents
made_over serial log journal = record {
  registers = new_contents serial;
  received = [];
  sensing = false;
  mission = None;
  recorded = empty_over log;
  total = 0;
  place = 0;
  journal = journal;
}

-- Making empties both memories.
abbrev pub made : List ℕ → Contents
made serial = made_over serial (replicate 2048 0) (replicate 16 blank_entry)

abbrev pub with_registers : Contents → Registers → Contents
with_registers c registers = record {
  registers = registers;
  received = c.received;
  sensing = c.sensing;
  mission = c.mission;
  recorded = c.recorded;
  total = c.total;
  place = c.place;
  journal = c.journal;
}

abbrev pub with_received : Contents → List ℕ → Contents
with_received c received = record {
  registers = c.registers;
  received = received;
  sensing = c.sensing;
  mission = c.mission;
  recorded = c.recorded;
  total = c.total;
  place = c.place;
  journal = c.journal;
}

abbrev pub with_mission : Contents → Option Running → Contents
with_mission c mission = record {
  registers = c.registers;
  received = c.received;
  sensing = c.sensing;
  mission = mission;
  recorded = c.recorded;
  total = c.total;
  place = c.place;
  journal = c.journal;
}

-- The sensors' registers and whether they are still to be read.
abbrev pub with_sensing : Contents → Registers → Bool → Contents
with_sensing c registers sensing = record {
  registers = registers;
  received = c.received;
  sensing = sensing;
  mission = c.mission;
  recorded = c.recorded;
  total = c.total;
  place = c.place;
  journal = c.journal;
}
