use Rattle.std.proofs.Common.{◌≡◌, ◌≤◌, ◌∷◌, length, get_or, drop, drop-cons, sym, ap, ◌∙◌, rules}
use Rattle.std.proofs.lemmas.List.{take_rest}
use Rattle.hex_text.proofs.typing.next_spaced.Goals as goal

pub returns : goal.returns
returns c =
    let text = c.args.text.now in
    let long : 1 ≤ length c.args.text.now = search rules in
    let space : get_or c.args.text.now 0 0 ≡ 32 = search rules in
    let whole : 32 ∷ drop 1 c.args.text.now ≡ c.args.text.now = sym (drop-cons text 0 0 long ∙ ap (λ s. s ∷ drop 1 text) space) in
    simp (take_rest, whole) at c.next.ensures
