use Rattle.std.proofs.Common.{◌≡◌, ◌≤◌, ◌∷◌, length, drop, drop-cons, sym, ap, ◌∙◌, rules}
use Rattle.std.proofs.lemmas.List.{take_rest}
use Rattle.script.specs.Lines.{Read}
use Rattle.script.proofs.Calls.{read_once}
use Rattle.script.proofs.call.Call.parse.Goals as goal

pub returns : goal.returns
returns c =
    let line = c.args.line.now in
    let long : 1 ≤ length c.args.line.now = search rules in
    let whole : c.from.result ∷ drop 1 c.args.line.now ≡ c.args.line.now = sym (drop-cons line 0 0 long ∙ ap (λ s. s ∷ drop 1 line) (sym c.from.ensures)) in
    let read : Read c.args.line.now c.lettered.result = simp (take_rest, whole) at c.lettered.ensures in
    record { read = read; only = read_once line c.lettered.result read }
