use Rattle.std.proofs.Common.{[], ◌∷◌, ◌++◌, get_or, take, sym, ap, ◌∙◌, append_assoc, append-nil}
use Rattle.std.proofs.lemmas.List.{take_more}
use Rattle.hex_text.proofs.Fronts.{front_more, held_short}
use Rattle.hex_text.proofs.short.ShortBytes.extend.Goals as goal

pub loop-byte-init : goal.loop-byte-init
loop-byte-init c = held_short c.args.self.now (sym (append-nil _))

pub loop-byte-preserved : goal.loop-byte-preserved
loop-byte-preserved c =
    let old = c.args.self.now.bytes.items in
    let xs = c.args.bytes.now in
    let i = c.loop-byte.byte-index in
    front_more 240 (old ++ take i xs) (get_or xs i 0 ∷ []) c.loop-byte.invariant c.push.ensures
    ∙ ap (take 240) (append_assoc old (take i xs) (get_or xs i 0 ∷ []) ∙ ap (λ zs. old ++ zs) (sym (take_more xs i 0 c.loop-byte-test.true)))
