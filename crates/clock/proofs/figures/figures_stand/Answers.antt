use Rattle.std.proofs.Common.{refl}
use Rattle.clock.specs.Elapsed.{sum_of_first}
use Rattle.clock.proofs.figures.figures_stand.Goals as goal

pub returns-clause-figures : goal.returns-clause-figures
unfolding sum_of_first
returns-clause-figures c = ((refl, refl, refl), (refl, refl, refl, refl), (refl, refl, refl, refl))
