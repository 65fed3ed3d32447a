use Rattle.std.proofs.Common.{◌≡◌, ℕ, ◌+◌, ◌-◌, ◌<◌, ◌≤◌, refl, ap, arith}
use Rattle.clock.specs.declared.calendar.Moment.{Moment}
use Rattle.clock.specs.Calendar.{DateExists, days_in}
use Rattle.clock.specs.Elapsed.{sum_of_first, days_of_months, days_of_year, days_of_years, day_number}
use Rattle.clock.proofs.Sums.{sum_more, sum_le, one_part}

-- The hundred years have 36,525 days.
century_days : days_of_years 100 ≡ 36525
unfolding sum_of_first
century_days = refl

-- 31 December 2099 is the last of them.
pub last_day : day_number 99 12 31 ≡ 36524
unfolding sum_of_first
last_day = refl

-- The days of the months up to a month are those of the months before it and its own.
month_more :
    (year month : ℕ) → 1 ≤ month → days_of_months year month ≡ days_of_months year (month - 1) + days_in year month
month_more year month h =
    let e : month - 1 + 1 ≡ month = omega arith in rw e at (sum_more (λ k. days_in year (k + 1)) (month - 1))

-- The first of a month comes a day after the last of the month before.
pub month_first :
    (year month : ℕ) → 1 ≤ month → 1 ≤ days_in year month
    → day_number year (month + 1) 1 ≡ day_number year month (days_in year month) + 1
month_first year month h some =
    let e : month + 1 - 1 ≡ month = omega arith in omega (arith, month_more year month h, ap (days_of_months year) e)

-- The first of January comes a day after the 31st of December.
pub year_first : (year : ℕ) → day_number (year + 1) 1 1 ≡ day_number year 12 31 + 1
unfolding sum_of_first
year_first year = omega (arith, sum_more days_of_year year, month_more year 12 (omega arith))

-- A date that exists lies within its year.
within_year :
    (m : Moment) → DateExists m → days_of_months m.year (m.month - 1) + (m.date - 1) < days_of_year m.year
within_year m h =
    omega
    (arith, h, month_more m.year m.month h.0, sum_le (λ k. days_in m.year (k + 1)) m.month 12 h.1)

-- It lies within the century.
pub within_century : (m : Moment) → DateExists m → day_number m.year m.month m.date < 36525
within_century m h =
    let next : m.year + 1 ≤ 100 = omega (arith, h) in
    omega
    (arith, within_year m h, sum_more days_of_year m.year, sum_le days_of_year (m.year + 1) 100 next, century_days)

-- A day of the century lies in one year only.
pub one_year :
    (m n : Moment) → DateExists m → DateExists n
    → day_number m.year m.month m.date ≡ day_number n.year n.month n.date → m.year ≡ n.year
one_year m n h k e =
    one_part days_of_year m.year n.year (days_of_months m.year (m.month - 1) + (m.date - 1))
    (days_of_months n.year (n.month - 1) + (n.date - 1)) (within_year m h) (within_year n k) (omega arith)

-- A day of a year, the i-th after the first of month a and the j-th after that of month b, lies in one month only.
pub one_month :
    (year a b i j : ℕ) → 1 ≤ a → 1 ≤ b → i < days_in year a → j < days_in year b
    → days_of_months year (a - 1) + i ≡ days_of_months year (b - 1) + j → a ≡ b
one_month year a b i j some_a some_b hi hj e =
    let a_is : a - 1 + 1 ≡ a = omega arith in
    let b_is : b - 1 + 1 ≡ b = omega arith in
    let same = one_part (λ k. days_in year (k + 1)) (a - 1) (b - 1) i j (rw a_is hi) (rw b_is hj) e in
    omega (arith, same)
