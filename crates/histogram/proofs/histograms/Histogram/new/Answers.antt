use Rattle.histogram.proofs.Counts.{bins_none}
use Rattle.histogram.proofs.histograms.Histogram.new.Goals as goal

pub returns-clause-history : goal.returns-clause-history
returns-clause-history g c = bins_none g.K.Kind.place g.row.N
