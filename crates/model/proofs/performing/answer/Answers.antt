use Rattle.model.proofs.performing.answer.Goals as goal

pub returns-in-Gap-clause-after : goal.returns-in-Gap-clause-after
returns-in-Gap-clause-after g c = rw c.in-Gap.is (c.gap.ensures c.args.log.now c.args.journal.now)

pub returns-in-Collect-clause-answer : goal.returns-in-Collect-clause-answer
returns-in-Collect-clause-answer g c = rw c.in-Collect.is (c.collect.ensures.answer c.args.log.now c.args.journal.now)

pub returns-in-Collect-clause-after : goal.returns-in-Collect-clause-after
returns-in-Collect-clause-after g c = rw c.in-Collect.is (c.collect.ensures.after c.args.log.now c.args.journal.now)
