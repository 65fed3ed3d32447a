-- A line that is read byte by byte, and the text of its bytes.
use Rattle.std.proofs.Common.{◌≡◌, ℕ, ◌≤◌, List, [], ◌∷◌, ◌++◌, length, take, Some, None, Option, ap, ◌∙◌, append_assoc, arith}
use Rattle.hex_text.specs.declared.short.ShortBytes.{ShortBytes}
use Rattle.hex_text.specs.Digits.{high_digit, low_digit}
use Rattle.hex_text.specs.Parsing.{Begins, NoByte, SaysSpaced, ReadAfter}
use Rattle.hex_text.specs.Text.{spaced, Says, Read}
use Rattle.hex_text.proofs.Fronts.{front_more}

-- a rest that is not empty and begins with no byte is not read
pub read_none : (old : List ℕ) (text : List ℕ) → 1 ≤ length text → NoByte text → ReadAfter old text None
read_none old text k none [] says = omega (arith, ap length says.written)
read_none old text k none (b ∷ bs) says = none b (spaced bs) (record { narrow = says.narrow.0; written = says.written })

none_more : (text rest : List ℕ) (b : ℕ) → Begins text b rest → ((bytes : List ℕ) → SaysSpaced rest bytes → ⊥) → (bytes : List ℕ) → SaysSpaced text bytes → ⊥
none_more text rest b front none [] says = cc (front.written, says.written)
none_more text rest b front none (c ∷ cs) says = none cs (record { narrow = says.narrow.1; written = cc (front.written, says.written) })

-- one byte more at the front of a rest
pub read_more : (old : List ℕ) {new text rest : List ℕ} {b : ℕ} (r : Option ShortBytes) → Begins text b rest → new ≡ take 240 (old ++ b ∷ [])
    → ReadAfter new rest r → ReadAfter old text r
read_more old {text = text} {rest = rest} {b = b} None front e none = none_more text rest b front none
read_more old {b = b} (Some s) front e h = (
  b ∷ h.0,
  record { narrow = (front.narrow, h.1.narrow); written = front.written ∙ ap (λ (t : List ℕ). 32 ∷ high_digit b ∷ low_digit b ∷ t) h.1.written },
  front_more 240 (old ++ b ∷ []) h.0 e h.2 ∙ ap (take 240) (append_assoc old (b ∷ []) h.0),
)

says_line : (text bytes : List ℕ) → SaysSpaced (32 ∷ text) bytes → Says text bytes
says_line text [] says = cc says.written
says_line text (b ∷ bs) says = record { narrow = says.narrow; written = cc says.written }

spaced_line : (text bytes : List ℕ) → 1 ≤ length text → Says text bytes → SaysSpaced (32 ∷ text) bytes
spaced_line text [] long says = absurd (omega (arith, ap length says.written))
spaced_line text (b ∷ bs) long says = record { narrow = says.narrow; written = ap (λ (t : List ℕ). 32 ∷ t) says.written }

-- a line that is not empty says what it says after a space
pub read_line : (text : List ℕ) (r : Option ShortBytes) → 1 ≤ length text → ReadAfter [] (32 ∷ text) r → Read text r
read_line text None long none = λ bytes says. none bytes (spaced_line text bytes long says)
read_line text (Some s) long h = (h.0, says_line text h.0 h.1, h.2)
