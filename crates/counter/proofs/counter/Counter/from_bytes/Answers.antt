use borrow.Author.Rules.{rules}
use Rattle.counter.proofs.Stored.{stored}
use Rattle.counter.proofs.counter.Counter.from_bytes.Goals as goal

pub returns-clause-back : goal.returns-clause-back
returns-clause-back c =
    stored c.args.bytes c.from_le_bytes.result (search rules) (search rules) (search rules) (search rules) (search rules)
