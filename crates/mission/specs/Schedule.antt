-- When sample sets are taken. Rollovers after the start of a mission count as k = 1, 2, 3 and so on;
-- d is the start delay and r the rate of its setting.
use Rattle.std.specs.Prelude.{◌≡◌, ℕ, ◌-◌, ◌%◌, Bool, cond, ◌&&◌, ◌==◌, nat_lt}
use Rattle.mission.specs.declared.schedule.Schedule.{Schedule}

-- A sample set is due at rollover k exactly when k > d and k − d − 1 is a multiple of r.
abbrev pub due : ℕ → ℕ → ℕ → Bool
due d r k = nat_lt d k && (k - d - 1) % r == 0

-- What a schedule holds: the rollovers left of the start delay, the rollovers to pass over before the
-- next sample set once the delay is over, and the rate.
pub record Countdown : Type 0 where
  pub delay : ℕ
  pub skip : ℕ
  pub rate : ℕ

-- A schedule as these three numbers.
abbrev pub seen : Schedule → Countdown
seen s = record { delay = s.delay; skip = s.skip; rate = s.rate }

-- A schedule stands k rollovers after the start. Of the delay d − k rollovers are left, never below 0.
-- Once the delay is past, r − 1 − ((k − d − 1) mod r) more go by before the one that takes the next
-- sample set; until then, none.
abbrev pub Stands : Countdown → ℕ → ℕ → ℕ → Type 0
Stands c d r k = c ≡ record { delay = d - k; skip = cond (nat_lt d k) (r - 1 - (k - d - 1) % r) 0; rate = r }

-- Whether the next rollover takes a sample set: both countdowns are over.
abbrev pub taken : Countdown → Bool
taken c = c.delay == 0 && c.skip == 0

-- What a schedule holds after the next rollover.
abbrev pub ticked : Countdown → Countdown
ticked c = record {
  delay = c.delay - 1;
  skip = cond (c.delay == 0) (cond (c.skip == 0) (c.rate - 1) (c.skip - 1)) c.skip;
  rate = c.rate;
}
