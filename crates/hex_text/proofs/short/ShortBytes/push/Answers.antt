use Rattle.std.proofs.Common.{[], ◌∷◌, ◌++◌, length-append, arith}
use Rattle.std.proofs.lemmas.List.{take_all, take_at}
use Rattle.std.proofs.lemmas.Grind.{common_steps}
use Rattle.hex_text.proofs.short.ShortBytes.push.Goals as goal

pub returns : goal.returns
returns c =
    let old = c.args.self.now.bytes.items in
    grind (arith, common_steps, take_all 240 (old ++ c.args.byte ∷ []), take_at old (c.args.byte ∷ []) 240, length-append old (c.args.byte ∷ []))
