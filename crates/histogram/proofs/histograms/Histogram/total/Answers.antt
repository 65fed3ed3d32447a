use Rattle.std.proofs.Common.{◌<◌, get_or, sum, ap, ◌∙◌, subst, arith}
use Rattle.std.proofs.ByRecursion.{all_from_every}
use Rattle.histogram.specs.Bins.{NoneFull}
use Rattle.histogram.proofs.Counts.{sum_bins}
use Rattle.histogram.proofs.histograms.Histogram.total.Goals as goal

pub sum_of-requires : goal.sum_of-requires
sum_of-requires g c = omega (arith, g.met.K.Kind.few, g.met.K.Binned.whole)

pub returns-clause-history : goal.returns-clause-history
returns-clause-history g c = λ readings stands room.
    c.sum_of.ensures ∙ ap sum stands ∙ sum_bins g.K.Kind.place g.row.N readings
    (all_from_every (λ r. g.K.Kind.place r < g.row.N) readings
    (λ k d _ _. omega (arith, g.met.K.Kind.within (get_or readings k d), g.met.K.Binned.whole)))
    (subst (NoneFull g.row.N) stands room)
