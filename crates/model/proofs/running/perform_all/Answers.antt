use Rattle.std.proofs.Common.{length, ap, ◌∙◌, arith}
use Rattle.model.proofs.Fitting.{fit_lent}
use Rattle.model.proofs.Prefixes.{reached_more}
use Rattle.model.proofs.running.perform_all.Goals as goal

pub perform-requires : goal.perform-requires
perform-requires g c =
    fit_lent c.args.calls.now c.loop-i.i _ (ap length c.loop-i.invariant.1) (ap length c.loop-i.invariant.2) c.loop-i-test.true c.requires.fit

pub loop-i-preserved : goal.loop-i-preserved
loop-i-preserved g c = (
  reached_more g.L.Line.wire c.loop-i.i _ c.loop-i-test.true (omega (arith, c.loop-i-test.true, c.loop-i.auto.notes, c.requires.places))
      c.loop-i.invariant.0 (g.met.L.Line.sound c.loop-i.recorder.line).0 c.perform.ensures.outcome c.perform.ensures.after,
  c.perform.ensures.spare_log ∙ c.loop-i.invariant.1,
  c.perform.ensures.spare_journal ∙ c.loop-i.invariant.2,
)
