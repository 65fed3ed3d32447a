-- Time counted from 1 January 2000, by the calendar alone.
use Rattle.std.specs.Prelude.{◌≡◌, ℕ, zero, suc, ◌+◌, ◌-◌, ◌*◌}
use Rattle.clock.specs.declared.calendar.Moment.{Moment}
use Rattle.clock.specs.Calendar.{days_in, Exists}

-- The sum of f at each number below the one given.
unfoldable pub sum_of_first : (ℕ → ℕ) → ℕ → ℕ
sum_of_first f zero = 0
sum_of_first f (suc n) = sum_of_first f n + f n

-- The days of the first months of a year, as many months as the count says.
abbrev pub days_of_months : ℕ → ℕ → ℕ
days_of_months year count = sum_of_first (λ k. days_in year (k + 1)) count

-- The days of a year are those of its twelve months.
abbrev pub days_of_year : ℕ → ℕ
days_of_year year = days_of_months year 12

-- The days of the first years from 2000 on, as many years as the count says.
abbrev pub days_of_years : ℕ → ℕ
days_of_years count = sum_of_first days_of_year count

-- The days from 1 January 2000 to a date: those of the years before its year, of the months before its month and of the dates before it.
abbrev pub day_number : ℕ → ℕ → ℕ → ℕ
day_number year month date = days_of_years year + days_of_months year (month - 1) + (date - 1)

-- The seconds from 1 January 2000, 00:00:00, to the moment.
abbrev pub seconds_since : Moment → ℕ
seconds_since m = day_number m.year m.month m.date * 86400 + m.hour * 3600 + m.minute * 60 + m.second

-- The seconds of the 36,525 days from 2000 to 2099.
abbrev pub century_seconds : ℕ
century_seconds = 36525 * 86400

-- No other moment that exists, of the same weekday, has this moment's count of seconds.
abbrev pub Sole : Moment → Type 0
Sole m = (other : Moment) → Exists other → seconds_since other ≡ seconds_since m → other.weekday ≡ m.weekday → other ≡ m
