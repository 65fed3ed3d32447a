use Rattle.std.proofs.Common.{refl}
use Rattle.clock.specs.Elapsed.{sum_of_first}
use Rattle.clock.proofs.clock.Clock.new.Goals as goal

pub returns-clause-counted : goal.returns-clause-counted
unfolding sum_of_first
returns-clause-counted c = refl
