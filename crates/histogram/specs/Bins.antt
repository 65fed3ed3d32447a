-- The bins of a histogram, by the readings that were counted. A kind of reading is here the type X of
-- its readings and the function `place`, which names the bin of each.
use Rattle.std.specs.Prelude.{ℕ, ◌+◌, ◌<◌, min, List, map, count_by, nat_eq, slice_index, slice_set}
use Rattle.std.specs.List.{range_with_len}

-- What a bin holds at most.
abbrev pub bin_top : ℕ
bin_top = 65535

-- How many of the readings fall into bin b.
abbrev pub falling : {X : Type 0} → (X → ℕ) → List X → ℕ → ℕ
falling place readings b = count_by (λ r. nat_eq (place r) b) readings

-- What bin b holds after the readings: how many fell into it, held at the top.
abbrev pub bin_after : {X : Type 0} → (X → ℕ) → List X → ℕ → ℕ
bin_after place readings b = min (falling place readings b) bin_top

-- All n bins after the readings, from bin 0 on. It opens only where a proof names it: at 64 bins it
-- computes to a list of 64 terms.
unfoldable pub bins_after : {X : Type 0} → (X → ℕ) → ℕ → List X → List ℕ
bins_after place n readings = map (bin_after place readings) (range_with_len 0 n)

-- The bins with bin b one up, held at the top, and every other bin as it was.
abbrev pub raised : List ℕ → ℕ → List ℕ
raised bins b = slice_set bins b (min (slice_index bins b + 1) bin_top)

-- None of the n bins is at the top.
abbrev pub NoneFull : ℕ → List ℕ → Type 0
NoneFull n bins = (b : ℕ) → b < n → slice_index bins b < bin_top
