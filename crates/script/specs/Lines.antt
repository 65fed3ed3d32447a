-- The lines of a script, each of which names a call.
use Rattle.std.specs.Prelude.{◌≡◌, ℕ, ◌<◌, List, [], ◌∷◌, Some, None, Option}
use Rattle.std.specs.List.{AllByRecursion}
use Rattle.hex_text.specs.Text.{spaced}
use Rattle.script.specs.declared.call.Call.{Call}
use Rattle.script.specs.declared.call.Call.TheVariants.{Byte, Gap, Second, Press, Collect}

-- The letter that a line begins with: B for a byte, G for a gap, S for a second, P for a press and R for a collection.
abbrev pub letter_of : Call → ℕ
letter_of (Byte byte) = 66
letter_of Gap = 71
letter_of (Second codes) = 83
letter_of Press = 80
letter_of Collect = 82

-- The bytes of a call. A second has four: the codes of the temperature and of channels one, two and three.
abbrev pub bytes_of : Call → List ℕ
bytes_of (Byte byte) = byte ∷ []
bytes_of Gap = []
bytes_of (Second codes) = codes.temperature ∷ codes.one ∷ codes.two ∷ codes.three ∷ []
bytes_of Press = []
bytes_of Collect = []

-- The line of a call: its letter, and then its bytes, each as two digits after one space. Nothing stands before, between or behind.
abbrev pub line_of : Call → List ℕ
line_of call = letter_of call ∷ spaced (bytes_of call)

-- The line is that of this call, and each number in the call fits a byte.
pub record Says (line : List ℕ) (call : Call) : Type 0 where
  pub narrow : AllByRecursion (λ byte. byte < 256) (bytes_of call)
  pub written : line ≡ line_of call

-- A line that is read says the call that was read. One that is not read says no call.
abbrev pub Read : List ℕ → Option Call → Type 0
Read line None = (call : Call) → Says line call → ⊥
Read line (Some call) = Says line call
