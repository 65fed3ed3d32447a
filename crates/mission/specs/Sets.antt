-- How many sample sets a schedule takes.
use Rattle.std.specs.Prelude.{◌≡◌, ℕ, ◌+◌, ◌-◌, ◌/◌, ◌<◌, count_by}
use Rattle.std.specs.List.{range_with_len}
use Rattle.mission.specs.Schedule.{due}

-- How many of the rollovers 1 to k are due.
abbrev pub sets_due : ℕ → ℕ → ℕ → ℕ
sets_due d r k = count_by (due d r) (range_with_len 1 k)

-- After k rollovers that is the number of rollovers past the delay, divided by the rate and rounded up.
abbrev pub SetCount : Type 0
SetCount = (d r k : ℕ) → 0 < r → sets_due d r k ≡ (k - d + r - 1) / r
