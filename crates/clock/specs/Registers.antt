-- The registers of the clock.
use Rattle.std.specs.Prelude.{◌≡◌, ℕ, Bool, cond, ◌&&◌, Some, None, Option, Ok, Err, Result, MatchResult, ◌==◌, ◌≢◌}
use Rattle.clock.specs.declared.calendar.Moment.{Moment}
use Rattle.clock.specs.declared.clock.access.BadField.{BadField}
use Rattle.clock.specs.declared.clock.access.BadField.TheVariants.{NotBcd, NoMoment}
use Rattle.clock.specs.declared.registers.ClockRegister.{ClockRegister}
use Rattle.clock.specs.declared.registers.ClockRegister.TheVariants.{Seconds, Minutes, Hours, Weekday, Date, Month, Year}
use Rattle.clock.specs.declared.registers.NoRegister.{NoRegister}
use Rattle.clock.specs.Bcd.{Bcd, bcd_of, is_bcd, number_of}
use Rattle.clock.specs.Calendar.{Exists, moment_exists}

-- The registers have the addresses 0 to 6.
abbrev pub register_at : ℕ → Option ClockRegister
register_at address =
    cond (address == 0) (Some Seconds)
    (cond (address == 1) (Some Minutes)
    (cond (address == 2) (Some Hours)
    (cond (address == 3) (Some Weekday)
    (cond (address == 4) (Some Date)
    (cond (address == 5) (Some Month)
    (cond (address == 6) (Some Year) None))))))

-- The result is the register at the address, or names the address where there is none.
abbrev pub Addressed : ℕ → Result ClockRegister NoRegister → Type 0
Addressed address result =
    MatchResult result
    (λ register. register_at address ≡ Some register)
    (λ e. (e.0 ≡ address) × (register_at address ≡ None))

-- Each register holds one field of the moment.
abbrev pub field_of : Moment → ClockRegister → ℕ
field_of m Seconds = m.second
field_of m Minutes = m.minute
field_of m Hours = m.hour
field_of m Weekday = m.weekday
field_of m Date = m.date
field_of m Month = m.month
field_of m Year = m.year

-- A register reads as its field in BCD.
abbrev pub reading : Moment → ClockRegister → ℕ
reading m register = bcd_of (field_of m register)

-- The moment with the register's field replaced by a number, and every other field as it was.
abbrev pub replaced : Moment → ClockRegister → ℕ → Moment
replaced m Seconds n =
    record { second = n; minute = m.minute; hour = m.hour; weekday = m.weekday; date = m.date; month = m.month; year = m.year }
replaced m Minutes n =
    record { second = m.second; minute = n; hour = m.hour; weekday = m.weekday; date = m.date; month = m.month; year = m.year }
replaced m Hours n =
    record { second = m.second; minute = m.minute; hour = n; weekday = m.weekday; date = m.date; month = m.month; year = m.year }
replaced m Weekday n =
    record { second = m.second; minute = m.minute; hour = m.hour; weekday = n; date = m.date; month = m.month; year = m.year }
replaced m Date n =
    record { second = m.second; minute = m.minute; hour = m.hour; weekday = m.weekday; date = n; month = m.month; year = m.year }
replaced m Month n =
    record { second = m.second; minute = m.minute; hour = m.hour; weekday = m.weekday; date = m.date; month = n; year = m.year }
replaced m Year n =
    record { second = m.second; minute = m.minute; hour = m.hour; weekday = m.weekday; date = m.date; month = m.month; year = n }

-- Every register but one reads at one moment as at another.
abbrev pub OthersStay : ClockRegister → Moment → Moment → Type 0
OthersStay register before after =
    (other : ClockRegister) → (other ≢ register) → reading after other ≡ reading before other

-- A byte can be written to a register if it is BCD and the moment exists with that field replaced.
abbrev pub Acceptable : Moment → ClockRegister → ℕ → Type 0
Acceptable m register byte = Bcd byte × Exists (replaced m register (number_of byte))

-- Acceptable as a test.
abbrev pub accepts : Moment → ClockRegister → ℕ → Bool
accepts m register byte = is_bcd byte && moment_exists (replaced m register (number_of byte))

-- What a write answers: a byte that is not BCD is refused before one with which the moment would not exist.
abbrev pub write_answer : Moment → ClockRegister → ℕ → Result Unit BadField
write_answer m register byte =
    cond (is_bcd byte) (cond (moment_exists (replaced m register (number_of byte))) (Ok tt) (Err NoMoment)) (Err NotBcd)
