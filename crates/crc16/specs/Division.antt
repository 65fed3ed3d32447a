-- CRC-16 as the division of a whole message, one bit after the other, by x^16 + x^15 + x^2 + 1.
use Rattle.std.specs.Prelude.{ℕ, zero, suc, ◌/◌, ◌%◌, Bool, true, false, cond, not, List, [], ◌∷◌, ◌++◌, ◌==◌, bit_xor}

-- the lowest bit of a number
abbrev pub lowest : ℕ → Bool
lowest n = n % 2 == 1

-- the k low bits of a number, the lowest first
abbrev pub low_bits : ℕ → ℕ → List Bool
low_bits zero n = []
low_bits (suc k) n = lowest n ∷ low_bits k (n / 2)

-- the bits of a message: eight for each byte, the lowest first
abbrev pub bits_of : List ℕ → List Bool
bits_of [] = []
bits_of (byte ∷ bytes) = low_bits 8 byte ++ bits_of bytes

abbrev pub differ : Bool → Bool → Bool
differ true b = not b
differ false b = b

-- the register takes a bit: its own lowest bit goes out, and where the two differ the polynomial, its bits reversed, is taken away
unfoldable pub taken : ℕ → Bool → ℕ
taken register bit = cond (differ (lowest register) bit) (bit_xor (register / 2) 0xA001) (register / 2)

-- what the register holds after these bits
abbrev pub divided : ℕ → List Bool → ℕ
divided register [] = register
divided register (bit ∷ bits) = divided (taken register bit) bits

-- the CRC of a message: what its bits leave in a register that starts at 0
abbrev pub crc_of : List ℕ → ℕ
crc_of message = divided 0 (bits_of message)

-- what eight bits that are all 0 leave of a register
abbrev pub remainder_of : ℕ → ℕ
remainder_of register = divided register (low_bits 8 0)
