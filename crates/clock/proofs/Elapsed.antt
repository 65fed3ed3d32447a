use Rattle.std.proofs.Common.{◌≡◌, ℕ, ◌+◌, ◌-◌, ◌%◌, ◌<◌, ltb, ◌⊎◌, sym, refl, ap, ◌∙◌, subst, inl, inr, mod-eq_of_lt, arith}
use native.Mathlib.Nat.{mod_self}
use Rattle.std.proofs.lemmas.Bool.{cond_both, ltb-false}
use Rattle.clock.specs.declared.calendar.Moment.{Moment}
use Rattle.clock.specs.Calendar.{Exists, days_in}
use Rattle.clock.specs.Elapsed.{sum_of_first, days_of_months, days_of_years, day_number, seconds_since, century_seconds}
use Rattle.clock.specs.Ticking.{midnight, next_weekday, next_year, first_of_next_month, next_day, next_hour, next_minute, ticked}
use Rattle.clock.proofs.Days.{last_day, month_first, year_first, within_century, one_year, one_month}

-- A moment comes a second after another, or it is the first and the other the last of the century.
abbrev Follows : Moment → Moment → Type 0
Follows m next =
    (seconds_since next ≡ seconds_since m + 1) ⊎ ((seconds_since next ≡ 0) × (seconds_since m + 1 ≡ century_seconds))

module _ (m : Moment) (h : Exists m) where
  -- Each count of seconds lies within the century.
  below_century : seconds_since m < century_seconds
  below_century = omega (arith, h, within_century m h.2)

  module _ (second : m.second ≡ 59) (minute : m.minute ≡ 59) (hour : m.hour ≡ 23) (weekday : ℕ) where
    -- After 31 December comes 1 January, of the next year or of the first.
    year_follows :
        day_number m.year m.month m.date ≡ day_number m.year 12 31
        → Follows m (midnight weekday 1 1 (next_year m.year))
    unfolding sum_of_first
    year_follows eve =
        cond_both (ltb m.year 99) _ _ (λ y. Follows m (midnight weekday 1 1 y))
        (λ _. inl (omega (arith, eve, year_first m.year)))
        (λ e. let year : m.year ≡ 99 = omega (arith, h, ltb-false m.year 99 e) in
        inr (refl, omega (arith, eve, last_day, ap (λ y. day_number y 12 31) year)))

    -- After the last of a month comes the first of the next.
    month_follows : m.date ≡ days_in m.year m.month → Follows m (first_of_next_month m weekday)
    month_follows date =
        cond_both (ltb m.month 12) _ _ (Follows m)
        (λ _. inl (omega (arith, date, month_first m.year m.month h.2.0 (omega (arith, h)))))
        (λ e. let month : m.month ≡ 12 = omega (arith, h, ltb-false m.month 12 e) in
        year_follows (ap (day_number m.year m.month) date ∙ ap (λ k. day_number m.year k (days_in m.year k)) month))

  -- What comes after the last second of a day, of an hour and of a minute, and after any second.
  day_follows : m.second ≡ 59 → m.minute ≡ 59 → m.hour ≡ 23 → Follows m (next_day m)
  day_follows second minute hour =
      let days = days_in m.year m.month in
      cond_both (ltb m.date days) _ _ (Follows m)
      (λ _. inl (omega (arith, h)))
      (λ e. month_follows second minute hour (next_weekday m.weekday) (omega (arith, h, ltb-false m.date days e)))

  hour_follows : m.second ≡ 59 → m.minute ≡ 59 → Follows m (next_hour m)
  hour_follows second minute =
      cond_both (ltb m.hour 23) _ _ (Follows m)
      (λ _. inl (omega arith))
      (λ e. day_follows second minute (omega (arith, h, ltb-false m.hour 23 e)))

  minute_follows : m.second ≡ 59 → Follows m (next_minute m)
  minute_follows second =
      cond_both (ltb m.minute 59) _ _ (Follows m)
      (λ _. inl (omega arith))
      (λ e. hour_follows second (omega (arith, h, ltb-false m.minute 59 e)))

  tick_follows : Follows m (ticked m)
  tick_follows =
      cond_both (ltb m.second 59) _ _ (Follows m)
      (λ _. inl (omega arith))
      (λ e. minute_follows (omega (arith, h, ltb-false m.second 59 e)))

-- A count that goes on by one, or from its last back to 0, goes round.
goes_round :
    (next count all : ℕ) → next < all → (next ≡ count + 1) ⊎ ((next ≡ 0) × (count + 1 ≡ all))
    → next ≡ (count + 1) % all
goes_round next count all h (inl one) =
    let k : count + 1 < all = omega arith in one ∙ sym (mod-eq_of_lt k)
goes_round next count all h (inr (none, last)) = rw last (none ∙ sym (mod_self all))

-- Counted in seconds, a tick adds one and goes round after the century.
pub tick_counts :
    (m next : Moment) → Exists m → Exists next → next ≡ ticked m
    → seconds_since next ≡ (seconds_since m + 1) % century_seconds
tick_counts m next h k e =
    let follows = subst (Follows m) (sym e) (tick_follows m h) in
    goes_round (seconds_since next) (seconds_since m) century_seconds (below_century next k) follows

-- Two moments with the same count of seconds differ in the weekday at most.
pub one_moment :
    (m n : Moment) → Exists m → Exists n → seconds_since m ≡ seconds_since n → m.weekday ≡ n.weekday → m ≡ n
one_moment m n h k e weekday =
    let day : day_number m.year m.month m.date ≡ day_number n.year n.month n.date = omega (arith, h, k) in
    let year = one_year m n h.2 k.2 day in
    let years = ap days_of_years year in
    let months = ap (λ y. days_of_months y (m.month - 1)) year in
    let days = ap (λ y. days_in y m.month) year in
    let month = one_month n.year m.month n.month (m.date - 1) (n.date - 1) h.2.0 k.2.0 (omega (arith, h, days)) (omega (arith, k)) (omega (arith, years, months)) in
    let date : m.date ≡ n.date = omega (arith, h, k, years, months, ap (λ i. days_of_months n.year (i - 1)) month) in
    let hour : m.hour ≡ n.hour = omega (arith, h, k) in
    let minute : m.minute ≡ n.minute = omega (arith, h, k) in
    let second : m.second ≡ n.second = omega (arith, h, k) in
    λ i. record { second = second i; minute = minute i; hour = hour i; weekday = weekday i; date = date i; month = month i; year = year i }
