-- The bytes of a command so far.
use Rattle.std.specs.Prelude.{ℕ, List, take}
use Rattle.command.specs.declared.received.Received.{Received}

abbrev pub received : Received → List ℕ
received r = take r.count r.bytes
