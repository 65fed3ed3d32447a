use Rattle.std.proofs.Common.{◌≡◌}
use Rattle.recorder.specs.Seen.{seen}
use Rattle.model.proofs.Prefixes.{Reached}
use Rattle.model.proofs.running.perform_all.Given as goal

-- the first i calls were performed, and nothing changed the spare memories
abbrev pub invariant-loop-i : goal.invariant-loop-i
invariant-loop-i g l =
    Reached g.L.Line.wire (seen g.L.Line.meaning l.initial.recorder l.initial.log l.initial.journal) l.calls l.i (seen g.L.Line.meaning l.recorder l.log l.journal) l.notes
    × (l.spare_log ≡ l.initial.spare_log) × (l.spare_journal ≡ l.initial.spare_journal)
