use Rattle.std.proofs.Common.{◌<◌, arith, rules}
use Rattle.histogram.proofs.Counts.{bins_push}
use Rattle.histogram.proofs.histograms.Histogram.count.Goals as goal

pub returns-clause-history : goal.returns-clause-history
returns-clause-history g c = λ readings stands.
    let place = g.K.Kind.place in
    let r = c.args.reading in
    let low : place r < g.row.N = omega (arith, g.met.K.Kind.within r, g.met.K.Binned.whole) in
    search (rules, bins_push place g.row.N readings r low)
