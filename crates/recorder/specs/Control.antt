-- What a chip holds besides the record of sample sets, and how missions start and stop.
use Rattle.std.specs.Prelude.{ℕ, Bool, cond, not, ◌&&◌, List, length, is_some, is_ok, Some, None, Option, ◌==◌, nat_lt}
use Rattle.command.specs.Receiving.{received}
use Rattle.memory.specs.declared.event.EventKind.{EventKind}
use Rattle.memory.specs.declared.event.EventKind.TheVariants.{Start, Stop, StatusStop}
use Rattle.memory.specs.declared.event.JournalEntry.{JournalEntry}
use Rattle.mission.specs.Schedule.{Countdown, seen as countdown_of}
use Rattle.mission.specs.Setting.{can_run}
use Rattle.record.specs.Sets.{Rules, rules_of}
use Rattle.registers.specs.Contents.{Contents as Registers, contents_of}
use Rattle.registers.specs.Steps.{by_button, channels_on, rolls_log_over, start_after}
use Rattle.registers.specs.Writing.{write_answer, write_after, stops}
use Rattle.ring.specs.Steps.{stored, advanced}
use Rattle.recorder.specs.declared.chip.Control.{Control}
use Rattle.recorder.specs.declared.chip.Mission.{Mission}

-- A mission in progress: the rules that it keeps to, and its schedule.
pub record Running : Type 0 where
  pub rules : Rules
  pub schedule : Countdown

pub record Controls : Type 0 where
  pub registers : Registers
  -- the command so far
  pub received : List ℕ
  -- the sensors are to be read at the next second
  pub sensing : Bool
  pub mission : Option Running
  pub total : ℕ
  -- the place of the next event, and the journal's memory
  pub place : ℕ
  pub journal : List JournalEntry

abbrev pub running_as : Mission → Running
running_as m = record { rules = rules_of m.setting; schedule = countdown_of m.schedule }

abbrev pub mission_as : Option Mission → Option Running
mission_as None = None
mission_as (Some m) = Some (running_as m)

-- What a control holds, over the journal that it is lent.
abbrev pub controls : Control → List JournalEntry → Controls
controls c journal = record {
  registers = contents_of c.registers;
  received = received c.received;
  sensing = c.sensing;
  mission = mission_as c.mission;
  total = c.total.count;
  place = c.journal.ring.next;
  journal = journal;
}

-- A mission is in progress.
abbrev pub in_mission : Controls → Bool
in_mission c = is_some c.mission

abbrev pub with_registers : Controls → Registers → Controls
with_registers c registers = record {
  registers = registers;
  received = c.received;
  sensing = c.sensing;
  mission = c.mission;
  total = c.total;
  place = c.place;
  journal = c.journal;
}

abbrev pub with_mission : Controls → Option Running → Controls
with_mission c mission = record {
  registers = c.registers;
  received = c.received;
  sensing = c.sensing;
  mission = mission;
  total = c.total;
  place = c.place;
  journal = c.journal;
}

-- An event has its kind, an address, and Total at that moment.
abbrev pub entry : EventKind → ℕ → ℕ → JournalEntry
entry kind address total = record { kind = kind; address = address; total = total }

-- The journal notes an event.
abbrev pub noted : Controls → EventKind → ℕ → Controls
noted c kind address = record {
  registers = c.registers;
  received = c.received;
  sensing = c.sensing;
  mission = c.mission;
  total = c.total;
  place = advanced (length c.journal) c.place;
  journal = stored c.journal c.place (entry kind address c.total);
}

-- The rules that the registers give a mission.
abbrev pub rules_by : Registers → Rules
rules_by r = record { roll_over = rolls_log_over r; channels = channels_on r; limits = r.limits }

-- A mission as it starts with what the registers hold.
abbrev pub running_by : Registers → Running
running_by r = record { rules = rules_by r; schedule = record { delay = r.delay; skip = 0; rate = r.rate } }

-- A mission starts; the address is the one that was written, or 0 for the button.
abbrev pub started : Controls → ℕ → Controls
started c address = noted (with_mission (with_registers c (start_after c.registers)) (Some (running_by c.registers))) Start address

-- A mission starts if the registers hold a setting that can run.
abbrev pub started_if_can : Controls → ℕ → Controls
started_if_can c address = cond (can_run c.registers.rate (channels_on c.registers)) (started c address) c

-- A write of Status 1 stops a mission by another kind of event than other writes.
abbrev pub stop_kind : ℕ → EventKind
stop_kind address = cond (address == 0x14) StatusStop Stop

-- A mission in progress stops.
abbrev pub stopped : Controls → ℕ → Controls
stopped c address = cond (in_mission c) (noted (with_mission c None) (stop_kind address) address) c

-- A sample rate that is not 0 starts a mission, unless the button is to start it.
abbrev pub starts : Registers → ℕ → ℕ → Bool
starts r address value = address == 0x0D && nat_lt 0 value && not (by_button r)

-- A write that is accepted: the register changes, a mission in progress may stop, and one may start.
abbrev pub accepted : Controls → ℕ → ℕ → Controls
accepted c address value =
    let stored = with_registers c (write_after c.registers address value) in
    let left = cond (stops address value) (stopped stored address) stored in
    cond (starts c.registers address value) (started_if_can left address) left

abbrev pub written : Controls → ℕ → ℕ → Controls
written c address value = cond (is_ok (write_answer c.registers address value)) (accepted c address value) c

-- A press starts a mission where the button is to start it, the record is cleared, the rate is not 0 and a channel is on.
abbrev pub press_starts : Registers → Bool
press_starts r = by_button r && (r.cleared && can_run r.rate (channels_on r))

abbrev pub pressed : Controls → Controls
pressed c = cond (press_starts c.registers) (started c 0) c
