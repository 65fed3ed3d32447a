-- The settings that a mission can run with.
use Rattle.std.specs.Prelude.{ℕ, Bool, ◌&&◌, nat_lt}
use Rattle.mission.specs.Channels.{any_on}
use Rattle.mission.specs.PerChannel.{Channels}

-- A mission can run exactly with a rate that is not 0 and a channel that is on.
abbrev pub can_run : ℕ → Channels → Bool
can_run rate channels = nat_lt 0 rate && any_on channels
