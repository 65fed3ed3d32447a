-- Single bits of a byte.
use Rattle.std.specs.Prelude.{ℕ, ◌/◌, ◌%◌, ◌^◌, Bool, cond, ◌==◌}

-- Whether bit i of a byte is 1, bit 0 the lowest.
abbrev pub bit : ℕ → ℕ → Bool
bit i byte = byte / 2 ^ i % 2 == 1

-- The weight of a bit that is on, else 0.
abbrev pub weight : Bool → ℕ → ℕ
weight on n = cond on n 0
