-- The whole table is computed from its rule, and compared with the one in the code.
use Rattle.std.proofs.Common.{◌<◌, arith, rules}
use Rattle.std.proofs.lemmas.List.FromFn.{get_or-map-range_with_len}
use Rattle.crc16.specs.Division.{taken, remainder_of}
use Rattle.crc16.proofs.remainder.Goals as goal

pub returns : goal.returns
unfolding taken
returns c =
    let p : c.args.byte < 256 = search rules in
    get_or-map-range_with_len remainder_of 0 256 c.args.byte c.args.byte 0 p (omega arith)
