use Rattle.std.proofs.Common.{rules}
use Rattle.clock.proofs.Elapsed.{one_moment, tick_counts}
use Rattle.clock.proofs.clock.Clock.tick.Goals as goal

pub returns-clause-counted : goal.returns-clause-counted
returns-clause-counted c =
    tick_counts c.args.self.now.moment c.next_second.result.moment (search rules) (search rules) c.next_second.ensures

pub returns-clause-sole : goal.returns-clause-sole
returns-clause-sole c other exists = one_moment other c.next_second.result.moment exists (search rules)
