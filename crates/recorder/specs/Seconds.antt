-- What a second does, and what a press of the button does.
use Rattle.std.specs.Prelude.{◌+◌, Bool, true, false, cond, Some, None, Option}
use Rattle.clock.specs.Ticking.{rolls_over}
use Rattle.counter.specs.Counting.{counted}
use Rattle.mission.specs.Schedule.{taken, ticked}
use Rattle.mission.specs.PerChannel.{Codes}
use Rattle.record.specs.Sets.{SampleSet, Rules}
use Rattle.record.specs.Taking.{taken as set_taken}
use Rattle.registers.specs.Contents.{Contents as Registers, with_ready}
use Rattle.registers.specs.Steps.{channels_on, tick_after, latch_after, raise_after, count_down_after}
use Rattle.recorder.specs.Contents.{Contents, joined, controls_of, with_registers, with_mission, with_sensing}
use Rattle.recorder.specs.Control.{Running}
use Rattle.recorder.specs.Control as control

-- A sensor read that is open is served: the codes of the channels that are on are stored, and data is ready.
abbrev pub served_registers : Bool → Registers → Codes → Registers
served_registers sensing r codes = cond sensing (with_ready (latch_after r (channels_on r) codes) true) r

abbrev pub served : Contents → Codes → Contents
served c codes = with_sensing c (served_registers c.sensing c.registers codes) false

-- The set of a second: its codes, and the moment that the clock then shows.
abbrev pub set_at : Contents → Codes → SampleSet
set_at c codes = record { codes = codes; moment = c.registers.moment }

-- The registers after a set: its codes are the latest, and its flags are raised.
abbrev pub sampled_registers : Registers → Rules → Codes → Registers
sampled_registers r rules codes = raise_after (latch_after r rules.channels codes) rules.channels rules.limits codes

-- One more set is recorded, and counted.
abbrev pub sampled : Contents → Rules → Codes → Contents
sampled c rules codes = record {
  registers = sampled_registers c.registers rules codes;
  received = c.received;
  sensing = c.sensing;
  mission = c.mission;
  recorded = set_taken rules c.recorded (set_at c codes);
  total = counted (c.total + 1);
  place = c.place;
  journal = c.journal;
}

-- A rollover of a mission: the delay register falls, the schedule goes on, and a set that is due is taken.
abbrev pub rolled_in : Contents → Running → Codes → Contents
rolled_in c m codes =
    let on = with_mission (with_registers c (count_down_after c.registers)) (Some (record { rules = m.rules; schedule = ticked m.schedule })) in
    cond (taken m.schedule) (sampled on m.rules codes) on

abbrev pub rolled_by : Contents → Option Running → Codes → Contents
rolled_by c None codes = c
rolled_by c (Some m) codes = rolled_in c m codes

abbrev pub rolled : Contents → Codes → Contents
rolled c codes = rolled_by c c.mission codes

-- A second passes: the clock moves, an open sensor read is served, and a rollover counts for a mission.
abbrev pub passed : Contents → Codes → Contents
passed c codes =
    let on = served (with_registers c (tick_after c.registers)) codes in
    cond (rolls_over c.registers.moment) (rolled on codes) on

-- The button is pressed.
abbrev pub pressed : Contents → Contents
pressed c = joined (control.pressed (controls_of c)) c.recorded
