-- Two decimal digits in a byte.
use Rattle.std.specs.Prelude.{ℕ, ◌+◌, ◌*◌, ◌/◌, ◌%◌, ◌≤◌, Bool, cond, ◌&&◌, Some, None, Option, nat_le}

-- The byte whose high nibble is the tens of a number below 100 and whose low nibble is its ones.
abbrev pub bcd_of : ℕ → ℕ
bcd_of number = number / 10 * 16 + number % 10

-- Both nibbles of the byte are decimal digits.
abbrev pub Bcd : ℕ → Type 0
Bcd byte = (byte / 16 ≤ 9) × (byte % 16 ≤ 9)

-- Bcd as a test.
abbrev pub is_bcd : ℕ → Bool
is_bcd byte = nat_le (byte / 16) 9 && nat_le (byte % 16) 9

-- The number that the two digits of a BCD byte spell.
abbrev pub number_of : ℕ → ℕ
number_of byte = byte / 16 * 10 + byte % 16

-- The number that a byte spells, or none where it is not BCD.
abbrev pub read_as_bcd : ℕ → Option ℕ
read_as_bcd byte = cond (is_bcd byte) (Some (number_of byte)) None
