-- A worked history: three sets of temperature and channel 1.
use Rattle.std.specs.Prelude.{◌≡◌, ℕ, Bool, true, false, List, [], ◌∷◌}
use Rattle.clock.specs.declared.calendar.Moment.{Moment}
use Rattle.memory.specs.declared.row.Row.TheVariants.{Two, Four}
use Rattle.mission.specs.PerChannel.{Codes, LimitPair}
use Rattle.record.specs.Sets.{SampleSet, Rules, row_with}
use Rattle.record.specs.Contents.{Contents}
use Rattle.record.specs.Histories.{record_of, rows_of}
use Rattle.record.specs.Map.{record_at}

-- The codes of a temperature and of channel 1, with 7 and 8 on the channels 2 and 3.
abbrev pub codes : ℕ → ℕ → Codes
codes temperature one = record { temperature = temperature; one = one; two = 7; three = 8 }

-- 28 February 2024, 23:58:00 and one and two minutes later.
abbrev pub late : Moment
late = record { second = 0; minute = 58; hour = 23; weekday = 3; date = 28; month = 2; year = 24 }

abbrev pub later : Moment
later = record { second = 0; minute = 59; hour = 23; weekday = 3; date = 28; month = 2; year = 24 }

abbrev pub latest : Moment
latest = record { second = 0; minute = 0; hour = 0; weekday = 4; date = 29; month = 2; year = 24 }

-- The three sets, oldest first.
abbrev pub three : List SampleSet
three =
    record { codes = codes 100 50; moment = late }
    ∷ record { codes = codes 130 50; moment = later }
    ∷ record { codes = codes 131 9; moment = latest }
    ∷ []

-- A low and a high limit.
abbrev pub between : ℕ → ℕ → LimitPair
between low high = record { low = low; high = high }

-- Roll-over on; temperature on or off; channel 1 on, 2 off and 3 on or off; temperature between 40 and 130, and channel 1 between 9 and 200.
abbrev pub rules : Bool → Bool → Rules
rules temperature third = record {
  roll_over = true;
  channels = record { temperature = temperature; one = true; two = false; three = third };
  limits = record { temperature = between 40 130; one = between 9 200; two = between 0 255; three = between 0 255 };
}

-- The record of the three sets with temperature and channel 1 on.
abbrev pub both : Contents
both = record_of (rules true false) three

-- The record of the three sets with channel 1 alone on.
abbrev pub alone : Contents
alone = record_of (rules false false) three

-- The first set gave the stamp, and three were taken.
abbrev pub Started : Type 0
Started =
    (both.stamp ≡ 0x58 ∷ 0x23 ∷ 0x28 ∷ 0x02 ∷ 0x24 ∷ [])
    × (record_at both 0x15 ≡ 0x58)
    × (record_at both 0x19 ≡ 0x24)
    × (record_at both 0x1A ≡ 3)
    × (record_at both 0x1B ≡ 0)

-- The rows take six bytes of the log, from 1000h on. With channel 3 on as well a row has a spare 0.
abbrev pub Logged : Type 0
Logged =
    (rows_of (rules true false) three ≡ Two 100 50 ∷ Two 130 50 ∷ Two 131 9 ∷ [])
    × (both.next ≡ 6)
    × (both.full ≡ false)
    × (record_at both 0x1000 ≡ 100)
    × (record_at both 0x1003 ≡ 50)
    × (record_at both 0x1005 ≡ 9)
    × (record_at both 0x1006 ≡ 0)
    × (row_with (rules true true).channels (codes 100 50) ≡ Four 100 50 8 0)

-- Codes 130 and 131 are both in bin 32 of temperature, at 840h. Code 50 is in bin 12 of channel 1, at 898h.
-- With temperature off its bins stay 0.
abbrev pub Binned : Type 0
Binned =
    (record_at both 0x832 ≡ 1)
    × (record_at both 0x840 ≡ 2)
    × (record_at both 0x841 ≡ 0)
    × (record_at both 0x898 ≡ 2)
    × (record_at alone 0x840 ≡ 0)
    × (record_at alone 0x898 ≡ 2)

-- The high temperature of the sets 2 and 3 is one alarm record, of stamp 2 and length 2. Set 3 has a low channel 1.
abbrev pub Alarmed : Type 0
Alarmed =
    (record_at both 0x220 ≡ 0)
    × (record_at both 0x238 ≡ 2)
    × (record_at both 0x23B ≡ 2)
    × (record_at both 0x250 ≡ 3)
    × (record_at both 0x253 ≡ 1)
    × (record_at both 0x26B ≡ 0)
    × (record_at alone 0x238 ≡ 0)

-- The worked figures.
abbrev pub Figures : Type 0
Figures = Started × Logged × Binned × Alarmed
