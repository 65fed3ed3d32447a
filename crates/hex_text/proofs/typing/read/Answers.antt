use Rattle.std.proofs.Common.{◌≡◌, ◌≤◌, [], ◌∷◌, ◌++◌, length, take, rules}
use Rattle.hex_text.specs.Short.{held}
use Rattle.hex_text.proofs.Parses.{read_more, read_line}
use Rattle.hex_text.proofs.typing.read.Goals as goal

pub returns : goal.returns
returns c =
    let text = c.args.text.now in
    let long : 1 ≤ length c.args.text.now = search rules in
    let first : held c.push.new.self ≡ take 240 ([] ++ c.in_ok-first.first ∷ []) = search rules in
    read_line text c.read_rest.result long (read_more [] c.read_rest.result c.in_ok-first.ensures first c.read_rest.ensures)
