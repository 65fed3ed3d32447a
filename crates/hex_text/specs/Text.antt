-- The text of bytes: two digits each, with one space between them.
use Rattle.std.specs.Prelude.{◌≡◌, ℕ, ◌<◌, List, [], ◌∷◌, ◌++◌, take, Some, None, Option}
use Rattle.std.specs.List.{AllByRecursion}
use Rattle.hex_text.specs.declared.short.ShortBytes.{ShortBytes}
use Rattle.hex_text.specs.Digits.{two_digits}
use Rattle.hex_text.specs.Short.{held}

-- each byte after a space
abbrev pub spaced : List ℕ → List ℕ
spaced [] = []
spaced (byte ∷ bytes) = 32 ∷ two_digits byte ++ spaced bytes

abbrev pub text_of : List ℕ → List ℕ
text_of [] = []
text_of (byte ∷ bytes) = two_digits byte ++ spaced bytes

-- these bytes are what the text says
pub record Says (text bytes : List ℕ) : Type 0 where
  pub narrow : AllByRecursion (λ byte. byte < 256) bytes
  pub written : text ≡ text_of bytes

-- a text that is read says bytes, the first 240 of which are held; one that is not read says none
abbrev pub Read : List ℕ → Option ShortBytes → Type 0
Read text None = (bytes : List ℕ) → Says text bytes → ⊥
Read text (Some s) = (bytes : List ℕ) × Says text bytes × (held s ≡ take 240 bytes)
