-- What a recorder holds that stands for a model: everything recorded is derived from the histories.
use Rattle.std.specs.Prelude.{ℕ, ◌-◌, ◌%◌, cond, length, Some, None, nat_lt}
use Rattle.memory.specs.Events.{journal_of}
use Rattle.mission.specs.Schedule.{Countdown}
use Rattle.record.specs.Histories.{record_of}
use Rattle.recorder.specs.Contents.{Contents}
use Rattle.recorder.specs.Control.{Running}
use Rattle.recorder.specs.State.{State, state}
use Rattle.model.specs.Model.{Model, Plan, total_of}

-- The countdowns of a mission after k rollovers: what is left of the delay, and the rollovers to pass over before the next set.
abbrev pub countdown_at : Plan → ℕ → Countdown
countdown_at p k = record {
  delay = p.delay - k;
  skip = cond (nat_lt p.delay k) (p.rate - 1 - (k - p.delay - 1) % p.rate) 0;
  rate = p.rate;
}

abbrev pub running_at : Plan → ℕ → Running
running_at p k = record { rules = p.rules; schedule = countdown_at p k }

abbrev pub contents_of : Model → Contents
contents_of m = record {
  registers = m.registers;
  received = m.received;
  sensing = m.sensing;
  mission = cond m.in_mission (Some (running_at m.plan m.k)) None;
  recorded = record_of m.plan.rules m.sets;
  total = total_of m;
  place = length m.events % 16;
  journal = journal_of m.events;
}

abbrev pub stand : Model → State
stand m = state (contents_of m) m.line
