-- The bytes so far are on the line, and do not wait.
use Rattle.std.proofs.Common.{◌≡◌, ◌≤◌, false, take}
use Rattle.line.specs.Reply.{reply}
use Rattle.line.proofs.sending.send.Given as goal

abbrev pub invariant-loop-byte : goal.invariant-loop-byte
invariant-loop-byte g l = (l.byte-index ≤ 32) × (g.L.Line.meaning l.line ≡ reply (take l.byte-index l.bytes) false)
