-- The model recorder: a history. What it records is not kept, but derived from lists of all that happened.
use Rattle.std.specs.Prelude.{ℕ, ◌+◌, Bool, true, false, List, [], ◌∷◌, ◌++◌, length}
use Rattle.counter.specs.Counting.{counted}
use Rattle.line.specs.Reply.{Reply, emptied}
use Rattle.memory.specs.declared.event.JournalEntry.{JournalEntry}
use Rattle.record.specs.Sets.{SampleSet, Rules}
use Rattle.registers.specs.Contents.{Contents as Registers, new_contents}
use Rattle.recorder.specs.Control.{rules_by}

-- The setting of a mission, fixed at its start.
pub record Plan : Type 0 where
  pub rate : ℕ
  pub delay : ℕ
  pub rules : Rules

pub record Model : Type 0 where
  pub registers : Registers
  -- the command so far
  pub received : List ℕ
  -- a sensor read is open
  pub sensing : Bool
  pub in_mission : Bool
  -- the setting of the mission in progress, or of the last one
  pub plan : Plan
  -- the rollovers since that mission's start
  pub k : ℕ
  -- what the line means
  pub line : Reply
  -- all events, oldest first
  pub events : List JournalEntry
  -- the sets since the last clear, oldest first
  pub sets : List SampleSet
  -- how many sets were taken since the recorder was made
  pub made : ℕ

-- The setting that the registers give.
abbrev pub plan_by : Registers → Plan
plan_by r = record { rate = r.rate; delay = r.delay; rules = rules_by r }

-- Current counts the sets since the last clear, Total all sets; each is held at its top.
abbrev pub current_of : Model → ℕ
current_of m = counted (length m.sets)

abbrev pub total_of : Model → ℕ
total_of m = counted m.made

-- The model as it is made: nothing has happened.
abbrev pub fresh : List ℕ → Model
fresh serial = record {
  registers = new_contents serial;
  received = [];
  sensing = false;
  in_mission = false;
  plan = plan_by (new_contents serial);
  k = 0;
  line = emptied;
  events = [];
  sets = [];
  made = 0;
}

abbrev pub with_registers : Model → Registers → Model
with_registers m registers = record {
  registers = registers;
  received = m.received;
  sensing = m.sensing;
  in_mission = m.in_mission;
  plan = m.plan;
  k = m.k;
  line = m.line;
  events = m.events;
  sets = m.sets;
  made = m.made;
}

abbrev pub with_received : Model → List ℕ → Model
with_received m received = record {
  registers = m.registers;
  received = received;
  sensing = m.sensing;
  in_mission = m.in_mission;
  plan = m.plan;
  k = m.k;
  line = m.line;
  events = m.events;
  sets = m.sets;
  made = m.made;
}

abbrev pub with_line : Model → Reply → Model
with_line m line = record {
  registers = m.registers;
  received = m.received;
  sensing = m.sensing;
  in_mission = m.in_mission;
  plan = m.plan;
  k = m.k;
  line = line;
  events = m.events;
  sets = m.sets;
  made = m.made;
}

-- The sensors' registers, and whether a sensor read is open.
abbrev pub with_sensing : Model → Registers → Bool → Model
with_sensing m registers sensing = record {
  registers = registers;
  received = m.received;
  sensing = sensing;
  in_mission = m.in_mission;
  plan = m.plan;
  k = m.k;
  line = m.line;
  events = m.events;
  sets = m.sets;
  made = m.made;
}

-- A mission starts: its setting is what the registers hold now, no rollover has passed, and an event is added.
abbrev pub starts : Model → Registers → JournalEntry → Model
starts m registers event = record {
  registers = registers;
  received = m.received;
  sensing = m.sensing;
  in_mission = true;
  plan = plan_by registers;
  k = 0;
  line = m.line;
  events = m.events ++ event ∷ [];
  sets = m.sets;
  made = m.made;
}

-- A mission stops, and an event is added.
abbrev pub stops : Model → JournalEntry → Model
stops m event = record {
  registers = m.registers;
  received = m.received;
  sensing = m.sensing;
  in_mission = false;
  plan = m.plan;
  k = m.k;
  line = m.line;
  events = m.events ++ event ∷ [];
  sets = m.sets;
  made = m.made;
}

-- The sets are emptied, a mission in progress is over, and one event is added.
abbrev pub clears : Model → Registers → JournalEntry → Model
clears m registers event = record {
  registers = registers;
  received = m.received;
  sensing = m.sensing;
  in_mission = false;
  plan = m.plan;
  k = m.k;
  line = m.line;
  events = m.events ++ event ∷ [];
  sets = [];
  made = m.made;
}

-- A rollover of the mission in progress passes.
abbrev pub rolls : Model → Registers → Model
rolls m registers = record {
  registers = registers;
  received = m.received;
  sensing = m.sensing;
  in_mission = m.in_mission;
  plan = m.plan;
  k = m.k + 1;
  line = m.line;
  events = m.events;
  sets = m.sets;
  made = m.made;
}

-- A set is added.
abbrev pub adds : Model → Registers → SampleSet → Model
adds m registers set = record {
  registers = registers;
  received = m.received;
  sensing = m.sensing;
  in_mission = m.in_mission;
  plan = m.plan;
  k = m.k;
  line = m.line;
  events = m.events;
  sets = m.sets ++ set ∷ [];
  made = m.made + 1;
}
