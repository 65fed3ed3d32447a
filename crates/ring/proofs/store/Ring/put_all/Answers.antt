use Rattle.std.proofs.Common.{arith}
use Rattle.std.proofs.lemmas.Grind.{common_steps}
use Rattle.ring.proofs.Rings.{stands_after_all}
use Rattle.ring.proofs.store.Ring.put_all.Goals as goal

pub returns-clause-law : goal.returns-clause-law
returns-clause-law g c = λ size blank earlier pos s.
    stands_after_all size blank pos earlier c.args.memory.now c.loop-entry.memory c.args.self.now.next c.loop-entry.self.next c.args.entries.now
    (grind (arith, common_steps)) (grind (arith, common_steps)) s
