-- The calendar of the years 2000 to 2099.
use Rattle.std.specs.Prelude.{ℕ, ◌-◌, ◌%◌, ◌≤◌, Bool, cond, ◌&&◌, List, [], ◌∷◌, ◌==◌, nat_le, slice_index}
use Rattle.clock.specs.declared.calendar.Moment.{Moment}

-- The days of each month of a year that is no leap year, January first.
abbrev pub month_days : List ℕ
month_days = 31 ∷ 28 ∷ 31 ∷ 30 ∷ 31 ∷ 30 ∷ 31 ∷ 31 ∷ 30 ∷ 31 ∷ 30 ∷ 31 ∷ []

-- Each fourth year from 2000 on is a leap year; year 0 is 2000.
abbrev pub leap : ℕ → Bool
leap year = year % 4 == 0

-- The days that a month, from 1 to 12, has in a year: February has a 29th in a leap year.
abbrev pub days_in : ℕ → ℕ → ℕ
days_in year month = cond (month == 2 && leap year) 29 (slice_index month_days (month - 1))

-- The time of day exists: its hours are 0 to 23, its minutes and its seconds 0 to 59.
abbrev pub TimeExists : Moment → Type 0
TimeExists m = (m.second ≤ 59) × (m.minute ≤ 59) × (m.hour ≤ 23)

-- The weekday is one of 1 to 7.
abbrev pub WeekdayExists : Moment → Type 0
WeekdayExists m = (1 ≤ m.weekday) × (m.weekday ≤ 7)

-- The date stands in the calendar of the years 0 to 99.
abbrev pub DateExists : Moment → Type 0
DateExists m =
    (1 ≤ m.month) × (m.month ≤ 12) × (m.year ≤ 99) × (1 ≤ m.date) × (m.date ≤ days_in m.year m.month)

-- A moment exists if its time, its weekday and its date do; each weekday goes with each date.
abbrev pub Exists : Moment → Type 0
Exists m = TimeExists m × WeekdayExists m × DateExists m

-- DateExists as a test.
abbrev pub date_exists : Moment → Bool
date_exists m =
    nat_le 1 m.month
    && (nat_le m.month 12
    && (nat_le m.year 99
    && (nat_le 1 m.date
    && nat_le m.date (days_in m.year m.month))))

-- Exists as a test.
abbrev pub moment_exists : Moment → Bool
moment_exists m =
    nat_le m.second 59
    && (nat_le m.minute 59
    && (nat_le m.hour 23
    && (nat_le 1 m.weekday
    && (nat_le m.weekday 7
    && date_exists m))))
