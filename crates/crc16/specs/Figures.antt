-- The check values that are published for this CRC.
use Rattle.std.specs.Prelude.{ℕ, List, [], ◌∷◌, codes}
use Rattle.crc16.specs.Division.{crc_of}

-- the CRC of the byte 01h, of the byte FFh, and of the ASCII digits 1 to 9
abbrev pub check_values : List ℕ
check_values = crc_of (0x01 ∷ []) ∷ crc_of (0xFF ∷ []) ∷ crc_of (codes "123456789") ∷ []
