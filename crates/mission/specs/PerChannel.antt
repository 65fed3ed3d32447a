-- What stands for each channel, and for each side of a channel.
use Rattle.std.specs.Prelude.{ℕ, Bool}
use Rattle.mission.specs.declared.per_channel.PerChannel.{PerChannel}
use Rattle.mission.specs.declared.per_channel.Sides.{Sides}

-- Which channels are on.
abbrev pub Channels : Type 0
Channels = PerChannel Bool

-- The codes of one second.
abbrev pub Codes : Type 0
Codes = PerChannel ℕ

-- The low and the high limit of one channel, and of each.
abbrev pub LimitPair : Type 0
LimitPair = Sides ℕ

abbrev pub Limits : Type 0
Limits = PerChannel LimitPair

-- The low and the high flag of one channel, and of each.
abbrev pub FlagPair : Type 0
FlagPair = Sides Bool

abbrev pub Flags : Type 0
Flags = PerChannel FlagPair
