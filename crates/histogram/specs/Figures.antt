-- Worked figures of codes and bins.
use Rattle.std.specs.Prelude.{◌≡◌, ℕ, [], ◌∷◌}
use Rattle.histogram.specs.Bins.{bins_after, raised}
use Rattle.histogram.specs.Codes.{bin_of_code}
use Rattle.histogram.specs.declared.temperatures.TemperatureCode.{TemperatureCode}

-- Some temperature has this code.
abbrev pub IsTemperature : ℕ → Type 0
IsTemperature code = (t : TemperatureCode) × (t.code ≡ code)

-- Code 250 is a temperature, in bin 62; code 251 is none; code 255 is in bin 63. A bin goes up to
-- 65,535 and stays there. After the codes 3, 4, 7 and 250, bin 0 holds 1 and bin 1 holds 2.
abbrev pub Figures : Type 0
Figures =
    IsTemperature 250
    × (bin_of_code 250 ≡ 62)
    × (IsTemperature 251 → ⊥)
    × (bin_of_code 255 ≡ 63)
    × (raised (9 ∷ 65534 ∷ []) 1 ≡ 9 ∷ 65535 ∷ [])
    × (raised (9 ∷ 65535 ∷ []) 1 ≡ 9 ∷ 65535 ∷ [])
    × (bins_after bin_of_code 2 (3 ∷ 4 ∷ 7 ∷ 250 ∷ []) ≡ 1 ∷ 2 ∷ [])
