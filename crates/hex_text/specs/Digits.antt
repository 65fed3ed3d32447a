-- A byte and its two upper-case hexadecimal digits, as characters.
use Rattle.std.specs.Prelude.{ℕ, ◌+◌, ◌-◌, ◌*◌, ◌/◌, ◌%◌, cond, List, [], ◌∷◌, Some, None, Option, nat_lt}

-- the value of the characters 0 to 9 and A to F
abbrev pub digit_of : ℕ → Option ℕ
digit_of c =
    cond (nat_lt c 48) None (cond (nat_lt c 58) (Some (c - 48)) (cond (nat_lt c 65) None (cond (nat_lt c 71) (Some (c - 55)) None)))

abbrev pub paired : Option ℕ → Option ℕ → Option ℕ
paired None low = None
paired (Some high) None = None
paired (Some high) (Some low) = Some (16 * high + low)

-- the byte that two characters make
abbrev pub byte_of : ℕ → ℕ → Option ℕ
byte_of high low = paired (digit_of high) (digit_of low)

-- the character of a value below 16
abbrev pub digit_char : ℕ → ℕ
digit_char value = cond (nat_lt value 10) (48 + value) (55 + value)

abbrev pub high_digit : ℕ → ℕ
high_digit byte = digit_char (byte / 16)

abbrev pub low_digit : ℕ → ℕ
low_digit byte = digit_char (byte % 16)

-- the two characters of a byte
abbrev pub two_digits : ℕ → List ℕ
two_digits byte = high_digit byte ∷ low_digit byte ∷ []
