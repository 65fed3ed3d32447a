-- A sample set, and the rules of a mission by which it is recorded.
use Rattle.std.specs.Prelude.{ℕ, Bool, cond, List, [], ◌∷◌, ◌++◌}
use Rattle.std.specs.Option.{unwrap_or}
use Rattle.clock.specs.Registers.{reading}
use Rattle.clock.specs.declared.calendar.Moment.{Moment}
use Rattle.clock.specs.declared.registers.ClockRegister.TheVariants.{Minutes, Hours, Date, Month, Year}
use Rattle.memory.specs.Rows.{row_of}
use Rattle.memory.specs.declared.row.Row.{Row}
use Rattle.memory.specs.declared.row.Row.TheVariants.{One}
use Rattle.mission.specs.Channels.{number_on, row_width}
use Rattle.mission.specs.Limits.{past}
use Rattle.mission.specs.PerChannel.{Channels, Codes, Flags, Limits}
use Rattle.mission.specs.declared.setting.Setting.{Setting}

-- A sample set: the codes of one second, and the clock's moment at that second.
pub record SampleSet : Type 0 where
  pub codes : Codes
  pub moment : Moment

-- The sample set of these codes at this moment.
abbrev pub sampled : Codes → Moment → SampleSet
sampled codes moment = record { codes = codes; moment = moment }

-- What the record takes from a mission's setting: whether a full log rolls over, the channels and the limits.
pub record Rules : Type 0 where
  pub roll_over : Bool
  pub channels : Channels
  pub limits : Limits

-- The rules of a setting.
abbrev pub rules_of : Setting → Rules
rules_of s = record { roll_over = s.roll_over; channels = s.channels; limits = s.limits }

-- The stamp of a moment: minutes, hours, date, month and year, each in BCD.
abbrev pub stamp_at : Moment → List ℕ
stamp_at m = reading m Minutes ∷ reading m Hours ∷ reading m Date ∷ reading m Month ∷ reading m Year ∷ []

-- The code of a channel, if it is on.
abbrev pub if_on : Bool → ℕ → List ℕ
if_on on code = cond on (code ∷ []) []

-- The codes of the channels that are on, in the order temperature, 1, 2, 3.
abbrev pub codes_on : Channels → Codes → List ℕ
codes_on channels codes =
    if_on channels.temperature codes.temperature
    ++ if_on channels.one codes.one
    ++ if_on channels.two codes.two
    ++ if_on channels.three codes.three

-- The row of the codes of the channels that are on. A setting has a channel on, so that there is a row; with none on, a single 0 stands in for it.
abbrev pub row_with : Channels → Codes → Row
row_with channels codes = unwrap_or (row_of (codes_on channels codes)) (One 0)

-- The row of the log that a set gives.
abbrev pub row_for : Rules → SampleSet → Row
row_for p s = row_with p.channels s.codes

-- How many bytes the rows have.
abbrev pub width_by : Rules → ℕ
width_by p = row_width (number_on p.channels)

-- The limits that a set is at or past, of the channels that are on.
abbrev pub past_by : Rules → SampleSet → Flags
past_by p s = past p.limits p.channels s.codes

-- The set is at or past the low limit of temperature, and temperature is on.
abbrev pub temperature_is_low : Rules → SampleSet → Bool
temperature_is_low p s = (past_by p s).temperature.low

-- The set is at or past the high limit of temperature, and temperature is on.
abbrev pub temperature_is_high : Rules → SampleSet → Bool
temperature_is_high p s = (past_by p s).temperature.high

-- The set is at or past the low limit of channel 1, and channel 1 is on.
abbrev pub one_is_low : Rules → SampleSet → Bool
one_is_low p s = (past_by p s).one.low

-- The set is at or past the high limit of channel 1, and channel 1 is on.
abbrev pub one_is_high : Rules → SampleSet → Bool
one_is_high p s = (past_by p s).one.high
