use Rattle.std.proofs.Common.{◌≡◌, length, drop}
use Rattle.ring.specs.Steps.{stored_all, advanced_all}
use Rattle.ring.proofs.store.Ring.put_all.Given as goal

-- What is left to store gives the rest.
abbrev pub invariant-loop-entry : goal.invariant-loop-entry
invariant-loop-entry g l =
    (stored_all l.memory l.self.next (drop l.entry-index l.entries) ≡ stored_all l.initial.memory l.initial.self.next l.entries)
    × (advanced_all (length l.memory) l.self.next (drop l.entry-index l.entries) ≡ advanced_all (length l.initial.memory) l.initial.self.next l.entries)
