use Rattle.std.proofs.Common.{rules}
use Rattle.memory.proofs.Events.{event_noted, event_read}
use Rattle.memory.proofs.journal.Journal.note.Goals as goal

pub returns-clause-law : goal.returns-clause-law
returns-clause-law c = λ events s.
    event_noted events c.args.memory.now _ c.args.self.now.ring.next _ c.args.entry (search rules) (search rules) s

pub returns-clause-reads : goal.returns-clause-reads
returns-clause-reads c = λ events s.
    event_read events c.args.memory.now _ c.args.self.now.ring.next _ c.args.entry (search rules) (search rules) s
