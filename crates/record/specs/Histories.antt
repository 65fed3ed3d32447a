-- What the record holds of a mission: the closed form of its history, all sets since the last clear, oldest first.
use Rattle.std.specs.Prelude.{ℕ, ◌*◌, Bool, cond, List, [], ◌∷◌, map, length, replicate, nat_le}
use Rattle.alarm.specs.Held.{held_of}
use Rattle.counter.specs.Counting.{counted}
use Rattle.histogram.specs.Bins.{bins_after}
use Rattle.histogram.specs.Codes.{bin_of_code}
use Rattle.memory.specs.Logs.{log_of, offset, written, LogReads}
use Rattle.memory.specs.declared.row.Row.{Row}
use Rattle.record.specs.Contents.{Contents}
use Rattle.record.specs.Sets.{SampleSet, Rules, stamp_at, row_for, width_by, temperature_is_low, temperature_is_high, one_is_low, one_is_high}

-- The start stamp is the moment of the first set, and zeros where there is none.
abbrev pub start_stamp : List SampleSet → List ℕ
start_stamp [] = replicate 5 0
start_stamp (first ∷ later) = stamp_at first.moment

-- The rows of the sets, one for each.
abbrev pub rows_of : Rules → List SampleSet → List Row
rows_of p sets = map (row_for p) sets

-- The bin of a set's temperature.
abbrev pub temperature_bin : SampleSet → ℕ
temperature_bin s = bin_of_code s.codes.temperature

-- The bin of a set's voltage of channel 1.
abbrev pub one_bin : SampleSet → ℕ
one_bin s = bin_of_code s.codes.one

-- The n bins of a channel: they count every set while it is on, and stay 0 while it is off.
abbrev pub bins_of : Bool → (SampleSet → ℕ) → ℕ → List SampleSet → List ℕ
bins_of on place n sets = cond on (bins_after place n sets) (replicate n 0)

-- The record of a mission that keeps to the rules, after all its sets. The next row goes where the row after all written ones begins,
-- and the log is full once the rows would take 2,048 bytes or more.
abbrev pub record_of : Rules → List SampleSet → Contents
record_of p sets = record {
  current = counted (length sets);
  stamp = start_stamp sets;
  next = offset (width_by p) (length (written p.roll_over (width_by p) (rows_of p sets)));
  full = nat_le 2048 (width_by p * length sets);
  memory = log_of p.roll_over (width_by p) (rows_of p sets);
  temperatures = bins_of p.channels.temperature temperature_bin 63 sets;
  voltages = bins_of p.channels.one one_bin 64 sets;
  temperature_low = held_of 6 (map (temperature_is_low p) sets);
  temperature_high = held_of 6 (map (temperature_is_high p) sets);
  one_low = held_of 6 (map (one_is_low p) sets);
  one_high = held_of 6 (map (one_is_high p) sets);
}

-- What a reader of the log finds: each byte of each set's row that is kept stands at its place, and every place not written yet holds 0.
abbrev pub Reads : Rules → List SampleSet → List ℕ → Type 0
Reads p sets memory = LogReads p.roll_over (width_by p) (rows_of p sets) memory
