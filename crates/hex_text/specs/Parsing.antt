-- How a line is taken apart, from its front.
use Rattle.std.specs.Prelude.{◌≡◌, ℕ, ◌<◌, List, ◌∷◌, ◌++◌, take, Some, None, Option}
use Rattle.std.specs.List.{AllByRecursion}
use Rattle.hex_text.specs.declared.short.ShortBytes.{ShortBytes}
use Rattle.hex_text.specs.Digits.{two_digits}
use Rattle.hex_text.specs.Short.{held}
use Rattle.hex_text.specs.Text.{spaced}

-- the text begins with a space and the two digits of this byte, and this rest stands behind them
pub record Begins (text : List ℕ) (byte : ℕ) (rest : List ℕ) : Type 0 where
  pub narrow : byte < 256
  pub written : text ≡ 32 ∷ two_digits byte ++ rest

-- the text begins with no byte in this form
abbrev pub NoByte : List ℕ → Type 0
NoByte text = (byte : ℕ) (rest : List ℕ) → Begins text byte rest → ⊥

-- these bytes are what the text says, each after a space
pub record SaysSpaced (text bytes : List ℕ) : Type 0 where
  pub narrow : AllByRecursion (λ byte. byte < 256) bytes
  pub written : text ≡ spaced bytes

-- a rest that is read says bytes, which are held behind the old ones as far as there is room; one that is not read says none
abbrev pub ReadAfter : List ℕ → List ℕ → Option ShortBytes → Type 0
ReadAfter old text None = (bytes : List ℕ) → SaysSpaced text bytes → ⊥
ReadAfter old text (Some s) = (bytes : List ℕ) × SaysSpaced text bytes × (held s ≡ take 240 (old ++ bytes))
