use Rattle.mission.specs.Schedule.{seen}
use Rattle.mission.proofs.Countdowns.{rolled}
use Rattle.mission.proofs.schedule.Schedule.rollover.Goals as goal

pub returns-clause-history : goal.returns-clause-history
returns-clause-history c =
    rolled (seen c.args.self.now) _ _ c.args.self.now.paced c.count_down.ensures.answer c.count_down.ensures.after
