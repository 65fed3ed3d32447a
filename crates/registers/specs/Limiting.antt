-- The registers of the limits: 0Bh and 0Ch of temperature, 23h to 28h of the voltage channels.
use Rattle.std.specs.Prelude.{ℕ, cond, ◌==◌}
use Rattle.mission.specs.PerChannel.{LimitPair, Limits}

-- The limit at an address of these.
abbrev pub limit_at : Limits → ℕ → ℕ
limit_at limits address =
    cond (address == 0x0B) limits.temperature.low
    (cond (address == 0x0C) limits.temperature.high
    (cond (address == 0x23) limits.one.low
    (cond (address == 0x24) limits.one.high
    (cond (address == 0x25) limits.two.low
    (cond (address == 0x26) limits.two.high
    (cond (address == 0x27) limits.three.low
    (cond (address == 0x28) limits.three.high 0)))))))

-- Each of these changes one part of the limits, and keeps the others.

abbrev pub with_low : LimitPair → ℕ → LimitPair
with_low limits value = record { low = value; high = limits.high }

abbrev pub with_high : LimitPair → ℕ → LimitPair
with_high limits value = record { low = limits.low; high = value }

abbrev pub with_temperature : Limits → LimitPair → Limits
with_temperature limits pair = record { temperature = pair; one = limits.one; two = limits.two; three = limits.three }

abbrev pub with_one : Limits → LimitPair → Limits
with_one limits pair = record { temperature = limits.temperature; one = pair; two = limits.two; three = limits.three }

abbrev pub with_two : Limits → LimitPair → Limits
with_two limits pair = record { temperature = limits.temperature; one = limits.one; two = pair; three = limits.three }

abbrev pub with_three : Limits → LimitPair → Limits
with_three limits pair = record { temperature = limits.temperature; one = limits.one; two = limits.two; three = pair }

-- The limits after a write at an address.
abbrev pub limits_with : Limits → ℕ → ℕ → Limits
limits_with limits address value =
    cond (address == 0x0B) (with_temperature limits (with_low limits.temperature value))
    (cond (address == 0x0C) (with_temperature limits (with_high limits.temperature value))
    (cond (address == 0x23) (with_one limits (with_low limits.one value))
    (cond (address == 0x24) (with_one limits (with_high limits.one value))
    (cond (address == 0x25) (with_two limits (with_low limits.two value))
    (cond (address == 0x26) (with_two limits (with_high limits.two value))
    (cond (address == 0x27) (with_three limits (with_low limits.three value))
    (cond (address == 0x28) (with_three limits (with_high limits.three value)) limits)))))))
