use Rattle.std.proofs.Common.{◌≡◌, ◌++◌, get_or, take}
use Rattle.hex_text.specs.Digits.{two_digits}
use Rattle.hex_text.specs.Short.{held}
use Rattle.hex_text.specs.Text.{spaced}
use Rattle.hex_text.proofs.typing.write.Given as goal

abbrev pub invariant-loop-byte : goal.invariant-loop-byte
invariant-loop-byte l = held l.text ≡ take 240 (two_digits (get_or l.bytes 0 0) ++ spaced (take l.byte-index l.rest))
