use Rattle.std.proofs.Common.{rules}
use Rattle.memory.proofs.Laws.{row_after, row_reads}
use Rattle.memory.proofs.log.Log.write.Goals as goal

pub returns-after-self-clause-law : goal.returns-after-self-clause-law
returns-after-self-clause-law c = λ w rows e s.
    let log = c.args.self.now in
    row_after w rows c.args.row c.args.memory.now _ log.ring.next _ log.full _ e c.args.roll_over (search rules) (search rules) (search rules) s

pub returns-after-self-clause-reads : goal.returns-after-self-clause-reads
returns-after-self-clause-reads c = λ w rows e s.
    let log = c.args.self.now in
    row_reads w rows c.args.row c.args.memory.now _ log.ring.next c.put_row.new.ring.next log.full c.if-self.self e c.args.roll_over
    (search rules) (search rules) (search rules) s

pub returns-else-not-self-clause-reads : goal.returns-else-not-self-clause-reads
returns-else-not-self-clause-reads c = λ w rows e s.
    let log = c.args.self.now in
    let memory = c.args.memory.now in
    row_reads w rows c.args.row memory memory log.ring.next log.ring.next log.full log.full e c.args.roll_over
    (search rules) (search rules) (search rules) s
