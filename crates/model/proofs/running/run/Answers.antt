use Rattle.std.proofs.Common.{rules}
use Rattle.model.proofs.Adding.{bins_add_up}
use Rattle.model.proofs.Flagging.{flags_told}
use Rattle.model.proofs.Truths.{ran}
use Rattle.model.proofs.running.run.Goals as goal

pub returns-in-Ok-clause-ran : goal.returns-in-Ok-clause-ran
returns-in-Ok-clause-ran g c = (
  search rules,
  ran g.L.Line.meaning g.L.Line.wire g.L.Line.accepted g.met.L.Line.carried c.args.serial c.args.calls.now _ c.in-Ok.ensures.1
      _ _ _ _ c.perform_all.ensures.notes c.perform_all.ensures.after c.perform_all.ensures.bytes,
)

pub returns-in-Ok-clause-bins : goal.returns-in-Ok-clause-bins
returns-in-Ok-clause-bins g c = bins_add_up g.L.Line.wire c.args.serial c.args.calls.now (c.can_perform_all.ensures.narrow (search rules))

pub returns-in-Ok-clause-flags : goal.returns-in-Ok-clause-flags
returns-in-Ok-clause-flags g c = flags_told g.L.Line.wire g.L.Line.accepted c.args.serial c.args.calls.now
