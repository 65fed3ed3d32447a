use Rattle.std.proofs.Common.{rules}
use Rattle.std.specs.Fmt.{digits}
use Rattle.script.proofs.figures.figures_stand.Goals as goal

pub returns-clause-figures : goal.returns-clause-figures
unfolding digits
returns-clause-figures c = search rules
