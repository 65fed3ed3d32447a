-- Where the alarm records of low sets stand in the address map.
use Rattle.std.specs.Prelude.{◌≡◌, true, false, [], ◌∷◌, map, replicate}
use Rattle.std.specs.List.{range_with_len}
use Rattle.record.specs.Contents.{Contents}
use Rattle.record.specs.Figures.{codes, late, rules}
use Rattle.record.specs.Histories.{record_of}
use Rattle.record.specs.Map.{record_at}
use Rattle.record.specs.Sets.{sampled}

-- The record of 256 sets in a row that are low in temperature: code 40, which is the low limit.
abbrev pub cold : Contents
cold = record_of (rules true false) (replicate 256 (sampled (codes 40 50) late))

-- They are two pieces: of stamp 1 and length 255, and of stamp 256 and length 1. These stand from 220h of the map on, each its stamp,
-- low byte first, and its length.
abbrev pub Alarms : Type 0
Alarms = map (record_at cold) (range_with_len 0x220 8) ≡ 0x01 ∷ 0x00 ∷ 0x00 ∷ 0xFF ∷ 0x00 ∷ 0x01 ∷ 0x00 ∷ 0x01 ∷ []
