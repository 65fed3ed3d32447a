-- The law of limit flags: a flag is 1 exactly if some sample set raised it and no write has cleared it since.
use Rattle.std.specs.Prelude.{◌≡◌, ℕ, ◌+◌, ◌<◌, ◌≤◌, Bool, true, false, ◌↔◌, List, [], ◌∷◌, ◌++◌, length, get_or, Option}
use Rattle.command.specs.Commands.{heard_of}
use Rattle.command.specs.declared.command.Command.TheVariants.{Write}
use Rattle.command.specs.declared.command.Heard.TheVariants.{Whole}
use Rattle.bits.specs.Bits.{bit}
use Rattle.mission.specs.Limits.{low_code, high_code}
use Rattle.mission.specs.PerChannel.{Channels, Codes, Flags as LimitFlags, LimitPair, Limits}
use Rattle.model.specs.declared.calls.Action.TheVariants.{Byte, Second}
use Rattle.model.specs.declared.calls.Call.{Call}
use Rattle.model.specs.declared.calls.Call.TheVariants.{Lent, Gap}
use Rattle.model.specs.Laws.{model_at}
use Rattle.model.specs.Model.{Model}

-- There is a flag for each channel and each side.
pub data Channel : Type 0 where
  temperature : Channel
  one : Channel
  two : Channel
  three : Channel

pub data Side : Type 0 where
  low : Side
  high : Side

-- The flag of a channel and a side.
abbrev pub flag_of : Channel → Side → LimitFlags → Bool
flag_of temperature low flags = flags.temperature.low
flag_of temperature high flags = flags.temperature.high
flag_of one low flags = flags.one.low
flag_of one high flags = flags.one.high
flag_of two low flags = flags.two.low
flag_of two high flags = flags.two.high
flag_of three low flags = flags.three.low
flag_of three high flags = flags.three.high

-- Where the flag is written: the address of its status register, and its bit there.
abbrev pub status_of : Channel → ℕ
status_of temperature = 0x14
status_of one = 0x2A
status_of two = 0x2A
status_of three = 0x2A

abbrev pub bit_of : Channel → Side → ℕ
bit_of temperature low = 2
bit_of temperature high = 1
bit_of one low = 6
bit_of one high = 5
bit_of two low = 4
bit_of two high = 3
bit_of three low = 2
bit_of three high = 1

-- Whether a channel is on, its limits, and its code.
abbrev pub on_of : Channel → Channels → Bool
on_of temperature channels = channels.temperature
on_of one channels = channels.one
on_of two channels = channels.two
on_of three channels = channels.three

abbrev pub limits_of : Channel → Limits → LimitPair
limits_of temperature limits = limits.temperature
limits_of one limits = limits.one
limits_of two limits = limits.two
limits_of three limits = limits.three

abbrev pub code_of : Channel → Codes → ℕ
code_of temperature codes = codes.temperature
code_of one codes = codes.one
code_of two codes = codes.two
code_of three codes = codes.three

-- A code is past the limit of a side: at or below the low one, or at or above the high one.
abbrev pub is_past : Side → LimitPair → ℕ → Bool
is_past low limits code = low_code limits code
is_past high limits code = high_code limits code

-- The call c, after which the model m is x, raises a flag: it is a second that takes a set, the channel is on in the mission's setting, and
-- its code is past the setting's limit.
pub record Raises (m : Model) (c : Call) (x : Model) (channel : Channel) (side : Side) : Type 0 where
  pub codes : Codes
  pub arrives : c ≡ Lent 2048 16 (Second codes)
  pub takes : x.made ≡ m.made + 1
  pub on : on_of channel m.plan.rules.channels ≡ true
  pub past : is_past side (limits_of channel m.plan.rules.limits) (code_of channel codes) ≡ true

-- The call c clears a flag of the model m: no reply waits, and its byte makes a whole write command to the flag's status register, of a value
-- that has a 0 at the flag's bit.
pub record Clears (m : Model) (c : Call) (channel : Channel) (side : Side) : Type 0 where
  pub byte : ℕ
  pub value : ℕ
  pub arrives : c ≡ Lent 2048 16 (Byte byte)
  pub free : m.line.waits ≡ false
  pub whole : heard_of (m.received ++ byte ∷ []) ≡ Whole (Write (status_of channel) value)
  pub clear : bit (bit_of channel side) value ≡ false

module _ (wire : List ℕ → List ℕ) (accepted : List ℕ → Option (List ℕ)) where
  -- Of the first i calls, call j raised the flag, and none after it cleared it.
  pub record Raised (serial : List ℕ) (cs : List Call) (i : ℕ) (channel : Channel) (side : Side) : Type 0 where
    pub j : ℕ
    pub earlier : j < i
    pub raises : Raises (model_at wire accepted serial cs j) (get_or cs j Gap) (model_at wire accepted serial cs (j + 1)) channel side
    pub since : (k : ℕ) → j < k → k < i → Clears (model_at wire accepted serial cs k) (get_or cs k Gap) channel side → ⊥

  -- After the first i calls of a run a flag is 1 exactly if one of them raised it, and none after that one cleared it.
  abbrev pub Flags : List ℕ → List Call → Type 0
  Flags serial cs =
      (i : ℕ) (channel : Channel) (side : Side) → i ≤ length cs
      → (flag_of channel side (model_at wire accepted serial cs i).registers.flags ≡ true) ↔ Raised serial cs i channel side
