use Rattle.std.proofs.Common.{rules}
use Rattle.ring.proofs.Rings.{stands_after}
use Rattle.ring.proofs.store.Ring.put.Goals as goal

pub returns-then-length-gt0-clause-law : goal.returns-then-length-gt0-clause-law
returns-then-length-gt0-clause-law g c = λ size blank entries pos s.
    stands_after size blank pos entries c.args.memory.now _ c.args.self.now.next _ c.args.entry (search rules) (search rules) s
