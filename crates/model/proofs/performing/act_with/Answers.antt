use Rattle.std.proofs.Common.{◌≡◌, ◌-◌, false, take, rules}
use Rattle.memory.specs.Serving.{serves}
use Rattle.recorder.specs.Seen.{seen}
use Rattle.model.proofs.Lends.{cannot_serve, put_back, short_refused}
use Rattle.model.proofs.performing.act_with.Goals as goal

pub returns-clause-answer : goal.returns-clause-answer
returns-clause-answer g c =
    let other : serves c.args.n c.args.k ≡ false = search rules in
    let short = cannot_serve c.args.spare_log.now c.args.spare_journal.now c.args.n c.args.k c.requires other in
    rw (c.act-2.ensures.answer, other)
    (short_refused (seen g.L.Line.meaning c.args.recorder.now (take (c.args.n - 0) c.args.spare_log.now) (take (c.args.k - 0) c.args.spare_journal.now)) c.args.action short)

pub returns-clause-spare_log : goal.returns-clause-spare_log
returns-clause-spare_log g c =
    let short = cannot_serve c.args.spare_log.now c.args.spare_journal.now c.args.n c.args.k c.requires (search rules) in
    put_back c.args.n c.args.spare_log.now _ (c.act-2.ensures.kept short).1

pub returns-clause-spare_journal : goal.returns-clause-spare_journal
returns-clause-spare_journal g c =
    let short = cannot_serve c.args.spare_log.now c.args.spare_journal.now c.args.n c.args.k c.requires (search rules) in
    put_back c.args.k c.args.spare_journal.now _ (c.act-2.ensures.kept short).2
