-- One second on.
use Rattle.std.specs.Prelude.{ℕ, ◌+◌, Bool, cond, ◌&&◌, ◌==◌, nat_lt}
use Rattle.clock.specs.declared.calendar.Moment.{Moment}
use Rattle.clock.specs.Calendar.{days_in}

-- Midnight at the start of a day.
abbrev pub midnight : ℕ → ℕ → ℕ → ℕ → Moment
midnight weekday date month year =
    record { second = 0; minute = 0; hour = 0; weekday = weekday; date = date; month = month; year = year }

-- Another time of the same day.
abbrev pub at_time : Moment → ℕ → ℕ → ℕ → Moment
at_time m hour minute second =
    record { second = second; minute = minute; hour = hour; weekday = m.weekday; date = m.date; month = m.month; year = m.year }

-- A new clock stands at 1 January 2000, 00:00:00, weekday 1.
abbrev pub first_moment : Moment
first_moment = midnight 1 1 1 0

-- The number after another, where the first comes again after the last.
abbrev pub after : ℕ → ℕ → ℕ → ℕ
after first last n = cond (nat_lt n last) (n + 1) first

-- After weekday 7 comes weekday 1.
abbrev pub next_weekday : ℕ → ℕ
next_weekday weekday = after 1 7 weekday

-- After 2099 comes 2000.
abbrev pub next_year : ℕ → ℕ
next_year year = after 0 99 year

-- Midnight of the first of the month after a moment's month, with the weekday given.
abbrev pub first_of_next_month : Moment → ℕ → Moment
first_of_next_month m weekday =
    cond (nat_lt m.month 12) (midnight weekday 1 (m.month + 1) m.year) (midnight weekday 1 1 (next_year m.year))

-- Midnight of the day after a moment's day.
abbrev pub next_day : Moment → Moment
next_day m =
    cond (nat_lt m.date (days_in m.year m.month))
    (midnight (next_weekday m.weekday) (m.date + 1) m.month m.year)
    (first_of_next_month m (next_weekday m.weekday))

-- The start of the hour after a moment's hour.
abbrev pub next_hour : Moment → Moment
next_hour m = cond (nat_lt m.hour 23) (at_time m (m.hour + 1) 0 0) (next_day m)

-- The start of the minute after a moment's minute.
abbrev pub next_minute : Moment → Moment
next_minute m = cond (nat_lt m.minute 59) (at_time m m.hour (m.minute + 1) 0) (next_hour m)

-- The moment one second later.
abbrev pub ticked : Moment → Moment
ticked m = cond (nat_lt m.second 59) (at_time m m.hour m.minute (m.second + 1)) (next_minute m)

-- The seconds go from 59 to 00 at the next tick.
abbrev pub rolls_over : Moment → Bool
rolls_over m = m.second == 59

-- The moment is 23:59:59.
abbrev pub last_of_day : Moment → Bool
last_of_day m = m.hour == 23 && (m.minute == 59 && m.second == 59)

-- The weekday goes one on after 23:59:59, and else it stays.
abbrev pub weekday_after : Moment → ℕ
weekday_after m = cond (last_of_day m) (next_weekday m.weekday) m.weekday
