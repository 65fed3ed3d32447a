use Rattle.std.proofs.Common.{length, Option}
use Rattle.hex_text.specs.declared.short.ShortBytes.{ShortBytes}
use Rattle.hex_text.specs.Parsing.{ReadAfter}
use Rattle.hex_text.specs.Short.{held}
use Rattle.hex_text.proofs.typing.read_rest.Given as goal

-- what comes of the rest of the line is what comes of the whole
abbrev pub invariant-loop-rest : goal.invariant-loop-rest
invariant-loop-rest l = (r : Option ShortBytes) → ReadAfter (held l.bytes) l.rest r → ReadAfter (held l.initial.bytes) l.text r

abbrev pub decreases-loop-rest : goal.decreases-loop-rest
decreases-loop-rest l = length l.rest
