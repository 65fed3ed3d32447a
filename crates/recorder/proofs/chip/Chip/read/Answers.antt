use Rattle.std.proofs.Common.{sym, ◌∙◌}
use Rattle.std.proofs.lemmas.Bool.{cond-false}
use Rattle.recorder.proofs.Maps.{some_as}
use Rattle.recorder.proofs.chip.Chip.read.Goals as goal

pub returns-else-is_in_record : goal.returns-else-is_in_record
returns-else-is_in_record c =
    rw (
      cond-false _ _ _ (sym c.is_in_total.ensures ∙ c.if-is_in_total.false),
      cond-false _ _ _ (sym c.is_in_record.ensures ∙ c.if-is_in_record.false),
      c.read-else-is_in_record.ensures,
      c.is_some.ensures,
      some_as c.args.self.now.control.mission,
    )
