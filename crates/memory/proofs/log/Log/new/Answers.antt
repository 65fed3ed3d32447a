use Rattle.memory.proofs.Laws.{no_row}
use Rattle.memory.proofs.log.Log.new.Goals as goal

pub returns-clause-law : goal.returns-clause-law
returns-clause-law c = rw c.at.ensures no_row
