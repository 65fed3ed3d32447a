-- The wire bytes of each line, and what its far end accepts.
use Rattle.std.specs.Prelude.{ℕ, ◌+◌, ◌-◌, ◌/◌, ◌%◌, Bool, cond, ◌&&◌, List, [], ◌∷◌, ◌++◌, length, take, drop, Some, None, Option, nat_le, nat_lt}
use Rattle.std.specs.Str.{bytes_eq}
use Rattle.crc16.specs.Division.{crc_of}

-- the data and then its check bytes
abbrev pub checked : (List ℕ → List ℕ) → List ℕ → List ℕ
checked checks xs = xs ++ checks xs

-- all but the last n bytes
abbrev pub data_of : ℕ → List ℕ → List ℕ
data_of n wire = take (length wire - n) wire

-- the last n bytes are the check bytes of those before
abbrev pub right_checks : ℕ → (List ℕ → List ℕ) → List ℕ → Bool
right_checks n checks wire = bytes_eq (drop (length wire - n) wire) (checks (data_of n wire))

-- a far end takes 1 to 32 data bytes, where the n bytes behind them are right: in all 1 to 32 bytes on the
-- 3-wire line, and 3 to 34 on the asynchronous line
abbrev pub from_checked : ℕ → (List ℕ → List ℕ) → List ℕ → Option (List ℕ)
from_checked n checks wire =
    cond (nat_lt n (length wire) && nat_le (length wire) (32 + n) && right_checks n checks wire) (Some (data_of n wire)) None

-- the 3-wire line has no check bytes
abbrev pub no_bytes : List ℕ → List ℕ
no_bytes xs = []

-- it sends the data alone, and takes it
abbrev pub plain : List ℕ → List ℕ
plain = checked no_bytes

abbrev pub from_plain : List ℕ → Option (List ℕ)
from_plain = from_checked 0 no_bytes

-- the check bytes of the asynchronous line are the CRC, the low byte first
abbrev pub crc_bytes : List ℕ → List ℕ
crc_bytes xs = crc_of xs % 256 ∷ crc_of xs / 256 ∷ []

-- it sends the data and then its CRC, and takes the data where the CRC is right
abbrev pub framed : List ℕ → List ℕ
framed = checked crc_bytes

abbrev pub from_framed : List ℕ → Option (List ℕ)
from_framed = from_checked 2 crc_bytes
