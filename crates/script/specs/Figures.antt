-- Worked examples of lines and answers.
use Rattle.std.specs.Prelude.{◌≡◌, true, false, [], ◌∷◌, codes, decimal}
use Rattle.hex_text.specs.Text.{text_of}
use Rattle.script.specs.declared.answer.Answer.TheVariants.{Done, Refused, Pressed, Bad}
use Rattle.script.specs.declared.call.Call.TheVariants.{Byte, Gap, Second, Press, Collect}
use Rattle.script.specs.Answers.{answer_of}
use Rattle.script.specs.Lines.{line_of}

-- The lines of the five calls.
abbrev pub Lines : Type 0
Lines =
    (line_of (Byte 0x40) ≡ codes "B 40")
    × (line_of (Byte 0x5F) ≡ codes "B 5F")
    × (line_of Gap ≡ codes "G")
    × (line_of (Second (record { temperature = 0x7D; one = 0x00; two = 0x0A; three = 0xFF })) ≡ codes "S 7D 00 0A FF")
    × (line_of Press ≡ codes "P")
    × (line_of Collect ≡ codes "R")

-- The lines that answer, with the number of a refusal in decimal.
abbrev pub Answers : Type 0
Answers =
    (answer_of Done ≡ codes "ok")
    × (answer_of (Refused 3) ≡ codes "no 3")
    × (answer_of (Refused 11) ≡ codes "no 11")
    × (answer_of (Pressed true) ≡ codes "1")
    × (answer_of (Pressed false) ≡ codes "0")
    × (text_of (0 ∷ 0 ∷ 0 ∷ []) ≡ codes "00 00 00")
    × (answer_of Bad ≡ codes "bad")
    × (decimal 0 ≡ codes "0")
    × (decimal 10 ≡ codes "10")
    × (decimal 105 ≡ codes "105")
    × (decimal 255 ≡ codes "255")

abbrev pub Figures : Type 0
Figures = Lines × Answers
