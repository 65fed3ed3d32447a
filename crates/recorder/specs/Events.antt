-- Clears, and the events of starts, stops and clears, over the whole contents.
use Rattle.std.specs.Prelude.{ℕ, length, None}
use Rattle.memory.specs.declared.event.EventKind.{EventKind}
use Rattle.memory.specs.declared.event.EventKind.TheVariants.{Clear}
use Rattle.record.specs.Contents.{cleared}
use Rattle.registers.specs.Steps.{clear_after}
use Rattle.recorder.specs.Contents.{Contents, joined, controls_of}
use Rattle.recorder.specs.Control as control

-- The journal notes an event.
abbrev pub noted : Contents → EventKind → ℕ → Contents
noted c kind address = joined (control.noted (controls_of c) kind address) c.recorded

-- A mission starts, if it can run; the address is the one that was written, or 0 for the button.
abbrev pub started_if_can : Contents → ℕ → Contents
started_if_can c address = joined (control.started_if_can (controls_of c) address) c.recorded

abbrev pub started : Contents → ℕ → Contents
started c address = joined (control.started (controls_of c) address) c.recorded

-- A mission in progress stops, because the register at the address was written.
abbrev pub stopped : Contents → ℕ → Contents
stopped c address = joined (control.stopped (controls_of c) address) c.recorded

-- The record and what goes with it are emptied, and a mission in progress stops without an event of its own.
abbrev pub emptied : Contents → Contents
emptied c = record {
  registers = clear_after c.registers;
  received = c.received;
  sensing = c.sensing;
  mission = None;
  recorded = cleared (length c.recorded.memory);
  total = c.total;
  place = c.place;
  journal = c.journal;
}

abbrev pub cleared_all : Contents → Contents
cleared_all c = noted (emptied c) Clear 0
