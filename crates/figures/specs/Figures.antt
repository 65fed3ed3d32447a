-- The worked figures of the record and of whole runs: one table, whose parts are the files beside this one.
use Rattle.figures.specs.Alarms.{Alarms}
use Rattle.figures.specs.Bins.{Bins}
use Rattle.figures.specs.Refusals.{Refusals}

pub record Figures : Type 0 where
  -- 256 low sets in a row are two alarm records: one of 255 from set 1 on, and one of 1 from set 256 on.
  pub alarms : Alarms
  -- Code 250 is in bin 62, which lies at 87Ch of the map.
  pub bins : Bins
  -- A second with code 251 is refused, number 13; and a clear that was enabled is refused, number 10, if a read came between.
  pub refusals : Refusals
