-- Which channels are on, and how wide a row of the log is.
use Rattle.std.specs.Prelude.{ℕ, ◌+◌, Bool, cond, ◌||◌, [], ◌∷◌, slice_index}
use Rattle.bits.specs.Bits.{bit}
use Rattle.mission.specs.PerChannel.{Channels}

-- The channels that a control byte switches on: temperature by bit 6, channels one, two and three by
-- bits 5, 4 and 3.
abbrev pub channels_of : ℕ → Channels
channels_of control = record { temperature = bit 6 control; one = bit 5 control; two = bit 4 control; three = bit 3 control }

-- Whether a channel is on.
abbrev pub any_on : Channels → Bool
any_on c = c.temperature || c.one || c.two || c.three

-- How many channels are on.
abbrev pub number_on : Channels → ℕ
number_on c = cond c.temperature 1 0 + cond c.one 1 0 + cond c.two 1 0 + cond c.three 1 0

-- A row of the log is 1, 2, 4 or 4 bytes wide for one, two, three or four channels. With no channel
-- there is no row, and the width is 0.
abbrev pub row_width : ℕ → ℕ
row_width n = slice_index (0 ∷ 1 ∷ 2 ∷ 4 ∷ 4 ∷ []) n
