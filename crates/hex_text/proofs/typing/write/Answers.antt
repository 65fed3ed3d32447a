use Rattle.std.proofs.Common.{get_or}
use Rattle.hex_text.specs.Digits.{two_digits}
use Rattle.hex_text.proofs.Texts.{text_more}
use Rattle.hex_text.proofs.typing.write.Goals as goal

pub loop-byte-preserved : goal.loop-byte-preserved
loop-byte-preserved c =
    text_more 240 (two_digits (get_or c.args.bytes.now 0 0)) _ c.loop-byte.byte-index c.loop-byte-test.true c.loop-byte.invariant c.push_spaced.ensures
