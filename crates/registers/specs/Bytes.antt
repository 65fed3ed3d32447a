-- The bytes of the control and status registers and of the start delay.
use Rattle.std.specs.Prelude.{ℕ, ◌+◌, ◌-◌, ◌*◌, ◌/◌, ◌%◌, Bool, cond, ◌==◌}
use Rattle.bits.specs.Bits.{bit, weight}
use Rattle.registers.specs.Contents.{Contents}

-- Control 1 shows the enabled clear in bit 6.
abbrev pub control_byte : Contents → ℕ
control_byte c = c.control + weight c.clear_enabled 64

-- A byte without its bit 6.
abbrev pub without_clear : ℕ → ℕ
without_clear byte = byte - weight (bit 6 byte) 64

-- Bit 0 of Control 2 is always 1.
abbrev pub switches_byte : ℕ → ℕ
switches_byte byte = byte / 2 * 2 + 1

-- Status 1: data ready, the record cleared, a mission in progress, and the low and high flag of temperature.
abbrev pub status_1 : Contents → Bool → ℕ
status_1 c running =
    weight c.ready 128
    + weight c.cleared 64
    + weight running 32
    + weight c.flags.temperature.low 4
    + weight c.flags.temperature.high 2

-- Status 2: the low and high flag of voltage channels one, two and three.
abbrev pub status_2 : Contents → ℕ
status_2 c =
    weight c.flags.one.low 64
    + weight c.flags.one.high 32
    + weight c.flags.two.low 16
    + weight c.flags.two.high 8
    + weight c.flags.three.low 4
    + weight c.flags.three.high 2

-- The start delay with another low byte.
abbrev pub delay_low : ℕ → ℕ → ℕ
delay_low delay byte = delay / 256 * 256 + byte

-- The start delay with another high byte.
abbrev pub delay_high : ℕ → ℕ → ℕ
delay_high delay byte = byte * 256 + delay % 256

-- The start delay with another byte i, byte 0 the low one.
abbrev pub delay_with : ℕ → ℕ → ℕ → ℕ
delay_with delay i byte = cond (i == 0) (delay_low delay byte) (delay_high delay byte)
