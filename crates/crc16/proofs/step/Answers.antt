use Rattle.std.proofs.Common.{◌/◌, ap, ◌∙◌, rules}
use lib.Bits.{bit_xor, and_mask}
use Rattle.crc16.specs.Division.{remainder_of}
use Rattle.crc16.proofs.Linear.{by_byte}
use Rattle.crc16.proofs.step.Goals as goal

pub returns : goal.returns
returns c =
    let r = c.args.crc in
    let b = c.args.byte in
    ap (bit_xor (r / 256)) (c.remainder.ensures ∙ ap remainder_of (and_mask (bit_xor r b) 8)) ∙ by_byte r b (search rules)
