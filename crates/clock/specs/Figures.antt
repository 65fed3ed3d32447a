-- The worked figures of the clock.
use Rattle.std.specs.Prelude.{◌≡◌, ℕ, ◌-◌, ◌*◌, true, false}
use Rattle.clock.specs.declared.calendar.Moment.{Moment}
use Rattle.clock.specs.declared.registers.ClockRegister.TheVariants.{Month, Year}
use Rattle.clock.specs.Elapsed.{days_of_year, seconds_since}
use Rattle.clock.specs.Registers.{accepts}
use Rattle.clock.specs.Ticking.{midnight, ticked}

-- The last second of a day.
abbrev pub day_end : ℕ → ℕ → ℕ → ℕ → Moment
day_end weekday date month year =
    record { second = 59; minute = 59; hour = 23; weekday = weekday; date = date; month = month; year = year }

-- How days follow one another:
-- 28 February 2024 is followed by 29 February 2024, and 28 February 2023 by 1 March 2023;
-- 31 December 2099, weekday 7, is followed by 1 January 2000, weekday 1.
abbrev pub Followers : Type 0
Followers =
    (ticked (day_end 4 28 2 24) ≡ midnight 5 29 2 24)
    × (ticked (day_end 3 28 2 23) ≡ midnight 4 1 3 23)
    × (ticked (day_end 7 31 12 99) ≡ midnight 1 1 1 0)

-- How much time there is:
-- 2023 has 365 days and 2024 has 366; 29 February 2024 begins 762,480,000 seconds after 1 January 2000;
-- the last second of 2099 is the last of 36,525 days.
abbrev pub Counts : Type 0
Counts =
    (days_of_year 23 ≡ 365)
    × (days_of_year 24 ≡ 366)
    × (seconds_since (midnight 5 29 2 24) ≡ 762480000)
    × (seconds_since (day_end 7 31 12 99) ≡ 36525 * 86400 - 1)

-- What can be written:
-- month 02h is refused on 31 January, and so is year 23h on 29 February 2024, but not year 28h;
-- month 1Ah is not BCD.
abbrev pub Writes : Type 0
Writes =
    (accepts (midnight 1 31 1 0) Month 0x02 ≡ false)
    × (accepts (midnight 5 29 2 24) Year 0x23 ≡ false)
    × (accepts (midnight 5 29 2 24) Year 0x28 ≡ true)
    × (accepts (midnight 1 1 1 0) Month 0x1A ≡ false)

-- The worked figures.
abbrev pub Figures : Type 0
Figures = Followers × Counts × Writes
