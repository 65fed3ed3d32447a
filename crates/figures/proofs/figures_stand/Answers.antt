use Rattle.std.proofs.Common.{refl}
use Rattle.crc16.specs.Division.{taken}
use Rattle.histogram.specs.Bins.{bins_after}
use Rattle.ring.specs.History.{ring_of}
use Rattle.figures.proofs.figures_stand.Goals as goal

pub returns-clause-figures : goal.returns-clause-figures
unfolding taken ring_of bins_after
returns-clause-figures c = record { alarms = refl; bins = (refl, refl, refl); refusals = ((refl, refl, refl), (refl, refl, refl, refl, refl)) }
