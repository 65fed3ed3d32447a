use Rattle.std.proofs.Common.{ap, ◌∙◌, rules}
use Rattle.record.specs.Contents.{empty_over}
use Rattle.record.proofs.record.Record.clear.Goals as goal

pub returns-clause-step : goal.returns-clause-step
returns-clause-step c = c.new.ensures.value c.fill.new.self ∙ ap empty_over (search rules)
