use Rattle.std.proofs.Common.{rules}
use Rattle.recorder.proofs.chip.Chip.roll.Goals as goal

pub returns-then-due : goal.returns-then-due
returns-then-due c journal = let h = c.sample.ensures journal in search rules
