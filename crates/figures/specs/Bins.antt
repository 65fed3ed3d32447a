-- Where the bins of a set lie in the address map.
use Rattle.std.specs.Prelude.{◌≡◌, List, [], ◌∷◌}
use Rattle.model.specs.declared.calls.Call.{Call}
use Rattle.figures.specs.Runs.{byte, map_after, second}

-- A mission of one set with temperature code 250: Control 2, at 29h, switches temperature on, the clock is put to the
-- last second of its minute, the rate 1 at 0Dh starts the mission, and the second passes.
abbrev pub one_set : List Call
one_set =
    byte 0x22 ∷ byte 0x29 ∷ byte 0x40
    ∷ byte 0x22 ∷ byte 0x00 ∷ byte 0x59
    ∷ byte 0x22 ∷ byte 0x0D ∷ byte 0x01
    ∷ second 250
    ∷ []

-- Bin 62 lies at 87Ch and 87Dh of the map, the low byte first: it holds 1 after that set, and bin 61 before it 0.
abbrev pub Bins : Type 0
Bins =
    (map_after one_set 0x87C ≡ 1)
    × (map_after one_set 0x87D ≡ 0)
    × (map_after one_set 0x87A ≡ 0)
