-- How limit flags are set and cleared.
use Rattle.std.specs.Prelude.{ℕ, ◌&&◌, ◌||◌}
use Rattle.bits.specs.Bits.{bit}
use Rattle.mission.specs.Limits.{past}
use Rattle.mission.specs.PerChannel.{Channels, Codes, FlagPair, Flags, Limits}

-- A code that is past a limit sets the flag of that limit. A flag that is set stays so.
abbrev pub raised_pair : FlagPair → FlagPair → FlagPair
raised_pair flags passed = record { low = flags.low || passed.low; high = flags.high || passed.high }

-- The flags after the codes of one sample set. A channel that is off sets none.
abbrev pub raised : Flags → Channels → Limits → Codes → Flags
raised flags channels limits codes =
    let passed = past limits channels codes in
    record {
      temperature = raised_pair flags.temperature passed.temperature;
      one = raised_pair flags.one passed.one;
      two = raised_pair flags.two passed.two;
      three = raised_pair flags.three passed.three;
    }

-- A written byte clears the flags at whose bits it has a 0, and sets none.
abbrev pub kept_pair : FlagPair → ℕ → ℕ → ℕ → FlagPair
kept_pair flags low_bit high_bit byte = record { low = flags.low && bit low_bit byte; high = flags.high && bit high_bit byte }

-- A write of Status 1: bit 2 is the low flag of temperature, and bit 1 the high one.
abbrev pub status_1_kept : Flags → ℕ → Flags
status_1_kept flags byte = record {
  temperature = kept_pair flags.temperature 2 1 byte;
  one = flags.one;
  two = flags.two;
  three = flags.three;
}

-- A write of Status 2: bits 6 and 5 are the low and high flag of channel one, 4 and 3 of channel two, 2 and 1 of
-- channel three.
abbrev pub status_2_kept : Flags → ℕ → Flags
status_2_kept flags byte = record {
  temperature = flags.temperature;
  one = kept_pair flags.one 6 5 byte;
  two = kept_pair flags.two 4 3 byte;
  three = kept_pair flags.three 2 1 byte;
}
