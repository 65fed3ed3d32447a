-- The lines that answer.
use Rattle.std.specs.Prelude.{ℕ, ◌≤◌, true, false, List, ◌++◌, length, codes, decimal}
use Rattle.hex_text.specs.Text.{text_of}
use Rattle.script.specs.declared.answer.Answer.{Answer}
use Rattle.script.specs.declared.answer.Answer.TheVariants.{Done, Refused, Pressed, Wire, Bad}

-- The line of an answer. The number of a refusal is in decimal, without leading zeros, and wire bytes are two digits each, with one space between them.
abbrev pub answer_of : Answer → List ℕ
answer_of Done = codes "ok"
answer_of (Refused number) = codes "no " ++ decimal number
answer_of (Pressed true) = codes "1"
answer_of (Pressed false) = codes "0"
answer_of (Wire bytes) = text_of bytes.now
answer_of Bad = codes "bad"

-- The answer has at most 80 wire bytes.
abbrev pub ShortWire : Answer → Type 0
ShortWire Done = Unit {0}
ShortWire (Refused number) = Unit {0}
ShortWire (Pressed started) = Unit {0}
ShortWire (Wire bytes) = length bytes.now ≤ 80
ShortWire Bad = Unit {0}
