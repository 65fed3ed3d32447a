use Rattle.std.proofs.Common.{◌≡◌, ◌++◌, take}
use Rattle.hex_text.specs.Short.{held}
use Rattle.hex_text.proofs.short.ShortBytes.extend.Given as goal

abbrev pub invariant-loop-byte : goal.invariant-loop-byte
invariant-loop-byte l = held l.self ≡ take 240 (held l.initial.self ++ take l.byte-index l.bytes)
