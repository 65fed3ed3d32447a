-- What one more sample set changes.
use Rattle.std.specs.Prelude.{ℕ, ◌+◌, Bool, cond, ◌&&◌, List, length, ◌==◌, nat_le}
use Rattle.alarm.specs.Held.{noted}
use Rattle.counter.specs.Counting.{counted}
use Rattle.histogram.specs.Bins.{raised}
use Rattle.histogram.specs.Codes.{bin_of_code}
use Rattle.memory.specs.Logs.{stored_row, next_row, full_after}
use Rattle.record.specs.Contents.{Contents}
use Rattle.record.specs.Sets.{SampleSet, Rules, stamp_at, row_for, temperature_is_low, temperature_is_high, one_is_low, one_is_high}

-- Bins after a code, which is counted or not.
abbrev pub binned : Bool → List ℕ → ℕ → List ℕ
binned counts bins code = cond counts (raised bins (bin_of_code code)) bins

-- A code above 250 is no temperature: no bin counts it.
abbrev pub temperature_counts : Rules → SampleSet → Bool
temperature_counts p s = p.channels.temperature && nat_le s.codes.temperature 250

-- The number of the next set.
abbrev pub next_number : Contents → ℕ
next_number k = counted (k.current + 1)

-- The place of the row after the next.
abbrev pub next_place : Rules → Contents → SampleSet → ℕ
next_place p k s = next_row p.roll_over k.full (length k.memory) k.next (row_for p s)

-- The contents after one more set. Only the first set gives the stamp. Every side notes every set.
abbrev pub taken : Rules → Contents → SampleSet → Contents
taken p k s = record {
  current = next_number k;
  stamp = cond (k.current == 0) (stamp_at s.moment) k.stamp;
  next = next_place p k s;
  full = full_after k.full (next_place p k s);
  memory = stored_row p.roll_over k.full k.memory k.next (row_for p s);
  temperatures = binned (temperature_counts p s) k.temperatures s.codes.temperature;
  voltages = binned p.channels.one k.voltages s.codes.one;
  temperature_low = noted 6 k.temperature_low (next_number k) (temperature_is_low p s);
  temperature_high = noted 6 k.temperature_high (next_number k) (temperature_is_high p s);
  one_low = noted 6 k.one_low (next_number k) (one_is_low p s);
  one_high = noted 6 k.one_high (next_number k) (one_is_high p s);
}
