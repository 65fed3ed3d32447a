-- Codes of sensors, and their bins.
use Rattle.std.specs.Prelude.{ℕ, ◌/◌}

-- The bin of a code is its quotient by 4.
abbrev pub bin_of_code : ℕ → ℕ
bin_of_code code = code / 4
