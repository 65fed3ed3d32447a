-- What a record holds, together with the log's memory.
use Rattle.std.specs.Prelude.{ℕ, Bool, false, List, [], replicate}
use Rattle.alarm.specs.Held.{Held, held_of}
use Rattle.alarm.specs.Table.{held_in}
use Rattle.record.specs.declared.record.Record.{Record}

-- All that a clear empties: the count of sets, the start stamp, the log (the place of the next row, whether it is full, its bytes),
-- the bins, and the alarm records of four sides.
pub record Contents : Type 0 where
  pub current : ℕ
  pub stamp : List ℕ
  pub next : ℕ
  pub full : Bool
  pub memory : List ℕ
  pub temperatures : List ℕ
  pub voltages : List ℕ
  pub temperature_low : Held
  pub temperature_high : Held
  pub one_low : Held
  pub one_high : Held

-- What is seen of a record over a lent memory.
abbrev pub seen : Record → List ℕ → Contents
seen r memory = record {
  current = r.current.count;
  stamp = r.stamp;
  next = r.log.ring.next;
  full = r.log.full;
  memory = memory;
  temperatures = r.temperatures.bins;
  voltages = r.voltages.bins;
  temperature_low = held_in r.temperature_alarms.low;
  temperature_high = held_in r.temperature_alarms.high;
  one_low = held_in r.one_alarms.low;
  one_high = held_in r.one_alarms.high;
}

-- A record of no set, over a memory.
abbrev pub empty_over : List ℕ → Contents
empty_over memory = record {
  current = 0;
  stamp = replicate 5 0;
  next = 0;
  full = false;
  memory = memory;
  temperatures = replicate 63 0;
  voltages = replicate 64 0;
  temperature_low = held_of 6 [];
  temperature_high = held_of 6 [];
  one_low = held_of 6 [];
  one_high = held_of 6 [];
}

-- What a clear leaves, over a memory of `size` bytes: a record of no set, and zeros.
abbrev pub cleared : ℕ → Contents
cleared size = empty_over (replicate size 0)
