-- The registers of the clock, at the addresses 00h to 06h.
use Rattle.std.specs.Prelude.{ℕ, Bool, false, cond, Some, None, Option}
use Rattle.clock.specs.Bcd.{number_of}
use Rattle.clock.specs.Registers.{accepts, reading, register_at, replaced}
use Rattle.clock.specs.declared.calendar.Moment.{Moment}
use Rattle.clock.specs.declared.registers.ClockRegister.{ClockRegister}

-- What a register of the clock shows; 0 where there is none.
abbrev pub shown_by : Moment → Option ClockRegister → ℕ
shown_by moment None = 0
shown_by moment (Some register) = reading moment register

-- Whether a register of the clock takes a value; not where there is none.
abbrev pub taken_by : Moment → Option ClockRegister → ℕ → Bool
taken_by moment None value = false
taken_by moment (Some register) value = accepts moment register value

-- The moment with a value that its register takes, else as it was.
abbrev pub moved_by : Moment → Option ClockRegister → ℕ → Moment
moved_by moment None value = moment
moved_by moment (Some register) value =
    cond (accepts moment register value) (replaced moment register (number_of value)) moment

-- What the clock shows at an address.
abbrev pub clock_at : Moment → ℕ → ℕ
clock_at moment address = shown_by moment (register_at address)

-- Whether the clock takes a value at an address.
abbrev pub clock_takes : Moment → ℕ → ℕ → Bool
clock_takes moment address value = taken_by moment (register_at address) value

-- The moment after a write at an address.
abbrev pub clock_with : Moment → ℕ → ℕ → Moment
clock_with moment address value = moved_by moment (register_at address) value
