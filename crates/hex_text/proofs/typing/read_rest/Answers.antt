use Rattle.std.proofs.Common.{◌≡◌, ◌≤◌, [], length, Some, None, sym, append-nil, rules}
use Rattle.std.proofs.lemmas.List.{nil_from_length}
use Rattle.hex_text.specs.Short.{held}
use Rattle.hex_text.proofs.Fronts.{held_short}
use Rattle.hex_text.proofs.Parses.{read_none, read_more}
use Rattle.hex_text.proofs.typing.read_rest.Goals as goal

pub returns-in_err-byte : goal.returns-in_err-byte
returns-in_err-byte c =
    let long : 1 ≤ length c.loop-rest.rest.now = search rules in
    rw c.from_residual.ensures (c.loop-rest.invariant None (read_none (held c.loop-rest.bytes) _ long c.in_err-byte.ensures))

pub loop-rest-preserved : goal.loop-rest-preserved
loop-rest-preserved c = λ r h. c.loop-rest.invariant r (read_more _ r c.in_ok-byte.ensures c.push.ensures h)

pub returns : goal.returns
returns c =
    let none : length c.loop-rest.rest.now ≡ 0 = search rules in
    c.loop-rest.invariant (Some c.loop-rest.bytes) ([], record { narrow = tt; written = nil_from_length _ none }, held_short c.loop-rest.bytes (sym (append-nil _)))
