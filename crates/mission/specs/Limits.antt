-- Codes that are low or high, and the limits that they are past.
use Rattle.std.specs.Prelude.{ℕ, Bool, ◌&&◌, nat_le}
use Rattle.mission.specs.PerChannel.{Channels, Codes, FlagPair, Flags, LimitPair, Limits}

-- A code at or below the low limit is low.
abbrev pub low_code : LimitPair → ℕ → Bool
low_code limits code = nat_le code limits.low

-- A code at or above the high limit is high.
abbrev pub high_code : LimitPair → ℕ → Bool
high_code limits code = nat_le limits.high code

-- The limits that the code of a channel is at or past: none where the channel is off.
abbrev pub past_pair : LimitPair → Bool → ℕ → FlagPair
past_pair limits on code = record { low = on && low_code limits code; high = on && high_code limits code }

-- The limits that the codes of the channels that are on are at or past.
abbrev pub past : Limits → Channels → Codes → Flags
past limits channels codes = record {
  temperature = past_pair limits.temperature channels.temperature codes.temperature;
  one = past_pair limits.one channels.one codes.one;
  two = past_pair limits.two channels.two codes.two;
  three = past_pair limits.three channels.three codes.three;
}
