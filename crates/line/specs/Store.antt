-- What a store means.
use Rattle.line.specs.declared.store.Store.{Store}
use Rattle.line.specs.Reply.{Reply, reply}

-- its bytes, and whether they wait
abbrev pub stored : Store → Reply
stored s = reply s.bytes.items s.waiting
