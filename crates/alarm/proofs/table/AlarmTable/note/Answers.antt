use Rattle.std.proofs.Common.{rules}
use Rattle.alarm.proofs.Keeping.{follows}
use Rattle.alarm.proofs.table.AlarmTable.note.Goals as goal

pub returns-then-not-past-clause-law : goal.returns-then-not-past-clause-law
returns-then-not-past-clause-law c = λ sets was at. follows 6 sets c.args.past was at (search rules)

pub returns-then-self-clause-law : goal.returns-then-self-clause-law
returns-then-self-clause-law c = λ sets was at. follows 6 sets c.args.past was at (search rules)

pub returns-then-used-lt-ALARM_RECORDS-clause-law : goal.returns-then-used-lt-ALARM_RECORDS-clause-law
returns-then-used-lt-ALARM_RECORDS-clause-law c = λ sets was at. follows 6 sets c.args.past was at (search rules)

pub returns-else-used-lt-ALARM_RECORDS-clause-law : goal.returns-else-used-lt-ALARM_RECORDS-clause-law
returns-else-used-lt-ALARM_RECORDS-clause-law c = λ sets was at. follows 6 sets c.args.past was at (search rules)
