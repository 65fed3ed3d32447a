-- A message followed by its own CRC, the low byte first, has the CRC 0.
use Rattle.std.proofs.Common.{◌≡◌, ℕ, ◌/◌, ◌%◌, ◌^◌, ◌<◌, Bool, true, false, List, [], ◌∷◌, ◌++◌, sym, refl, ap, ◌∙◌, zero-add, arith}
use Rattle.std.specs.List.{fold}
use lib.Bits.{xor_lt}
use lib.Pow.{split}
use Rattle.crc16.specs.Division.{lowest, low_bits, bits_of, differ, taken, divided, crc_of}
use Rattle.crc16.proofs.Linear.{taken_away, taken_is, shifted_out}

-- byte by byte, the division leaves what it leaves of all bits
pub byte_by_byte : (r : ℕ) (xs : List ℕ) → fold (λ crc byte. divided crc (low_bits 8 byte)) r xs ≡ divided r (bits_of xs)
byte_by_byte r [] = refl
byte_by_byte r (x ∷ xs) = byte_by_byte (divided r (low_bits 8 x)) xs

-- a message after another
joined : (r : ℕ) (xs ys : List ℕ) → divided r (bits_of (xs ++ ys)) ≡ divided (divided r (bits_of xs)) (bits_of ys)
joined r [] ys = refl
joined r (x ∷ xs) ys = joined (divided r (low_bits 8 x)) xs ys

away_lt : (d : Bool) → taken_away d < 2 ^ 16
away_lt true = omega arith
away_lt false = omega arith

taken_lt : (r : ℕ) (b : Bool) → r < 2 ^ 16 → taken r b < 2 ^ 16
taken_lt r b p = rw (taken_is r b) (xor_lt 16 (r / 2) (taken_away (differ (lowest r) b)) (omega arith) (away_lt (differ (lowest r) b)))

-- the register has 16 bits
below : (r : ℕ) (bits : List Bool) → r < 2 ^ 16 → divided r bits < 2 ^ 16
below r [] p = p
below r (b ∷ bits) p = below (taken r b) bits (taken_lt r b p)

-- a register that its own bits come into is empty after them
emptied : (r : ℕ) → r < 2 ^ 16 → divided r (bits_of (r % 256 ∷ r / 256 ∷ [])) ≡ 0
emptied r p =
    ap (λ (n : ℕ). divided (divided n (low_bits 8 (r % 256))) (low_bits 8 (r / 256))) (sym (split r 8))
    ∙ ap (λ (n : ℕ). divided n (low_bits 8 (r / 256))) (shifted_out 8 (r / 256) (r % 256) (omega arith) ∙ sym (zero-add (r / 256)))
    ∙ shifted_out 8 0 (r / 256) (omega arith)

pub residue : (message : List ℕ) → crc_of (message ++ (crc_of message % 256 ∷ crc_of message / 256 ∷ [])) ≡ 0
residue message =
    let c = crc_of message in
    joined 0 message (c % 256 ∷ c / 256 ∷ []) ∙ emptied c (below 0 (bits_of message) (omega arith))
