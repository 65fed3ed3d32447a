-- Worked figures of schedules and channels.
use Rattle.std.specs.Prelude.{◌≡◌, ℕ, zero, suc, ◌+◌, ◌<◌, true, false, cond, List, [], ◌∷◌, filter}
use Rattle.std.specs.List.{range_with_len}
use Rattle.mission.specs.Channels.{any_on, channels_of, number_on, row_width}
use Rattle.mission.specs.Schedule.{due, Countdown, taken, ticked}

-- Those of the rollovers 1 to n that are due.
abbrev pub due_among : ℕ → ℕ → ℕ → List ℕ
due_among d r n = filter (due d r) (range_with_len 1 n)

-- Those of the n rollovers from number k on at which counting down takes a sample set.
abbrev pub taken_among : ℕ → ℕ → Countdown → List ℕ
taken_among zero k c = []
taken_among (suc n) k c =
    let rest = taken_among n (k + 1) (ticked c) in
    cond (taken c) (k ∷ rest) rest

-- With delay 2 and rate 5, sample sets are due and taken at rollovers 3, 8 and 13. With delay 0 and
-- rate 1, one is due at every rollover. With the greatest delay and rate, the first is due at rollover
-- 65,536 and the next at 65,791. Control byte 48h switches temperature and channel three on, which
-- makes rows of 2 bytes; 70h switches three channels on, which makes rows of 4; 87h switches none on.
abbrev pub Figures : Type 0
Figures =
    (due_among 2 5 15 ≡ 3 ∷ 8 ∷ 13 ∷ [])
    × (taken_among 15 1 (record { delay = 2; skip = 0; rate = 5 }) ≡ 3 ∷ 8 ∷ 13 ∷ [])
    × ((k : ℕ) → due 0 1 (k + 1) ≡ true)
    × ((k : ℕ) → k < 65536 → due 65535 255 k ≡ false)
    × (due 65535 255 65536 ≡ true)
    × ((k : ℕ) → 65536 < k → k < 65791 → due 65535 255 k ≡ false)
    × (due 65535 255 65791 ≡ true)
    × (channels_of 0x48 ≡ record { temperature = true; one = false; two = false; three = true })
    × (row_width (number_on (channels_of 0x48)) ≡ 2)
    × (row_width (number_on (channels_of 0x70)) ≡ 4)
    × (any_on (channels_of 0x87) ≡ false)
