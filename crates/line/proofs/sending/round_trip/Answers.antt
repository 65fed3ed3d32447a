use Rattle.std.proofs.Common.{arith}
use Rattle.std.proofs.lemmas.Grind.{common_steps}
use Rattle.line.proofs.sending.round_trip.Goals as goal

-- Where the bytes arrive, they are what was sent, since the line's law says that its wire bytes carry them.
pub returns : goal.returns
returns g c =
    let carried = g.met.L.Line.carried c.args.bytes.now (λ i. omega (arith, c.type_inv.bytes i)) in
    grind (arith, common_steps)
