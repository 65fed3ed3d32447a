use Rattle.std.proofs.Common.{◌∙◌}
use Rattle.std.proofs.lemmas.List.{take_all}
use Rattle.hex_text.specs.Text.{text_of}
use Rattle.hex_text.proofs.Fronts.{held_short}
use Rattle.script.proofs.Lengths.{text_short}
use Rattle.script.proofs.answer.Answer.text.Goals as goal

pub returns-in-Refused-clause-value : goal.returns-in-Refused-clause-value
returns-in-Refused-clause-value c = rw c.in-Refused.is (held_short c.refused.result c.refused.ensures)

pub returns-in-Wire-clause-whole : goal.returns-in-Wire-clause-whole
returns-in-Wire-clause-whole c =
    let bytes = c.in-Wire.bytes.now in
    rw c.in-Wire.is (λ few. c.write.ensures ∙ take_all 240 (text_of bytes) (text_short 80 bytes few))
