use Rattle.std.proofs.Common.{◌≡◌, ◌∙◌, rules}
use Rattle.memory.specs.Logs.{used_of}
use Rattle.record.specs.Contents.{seen}
use Rattle.record.proofs.Records.{used}
use Rattle.record.proofs.record.Record.log_used.Goals as goal

pub returns : goal.returns
returns c =
    let log = c.args.self.now.log in
    let value : c.used.result ≡ used_of log.ring.next log.full = search rules in
    record { value = value; law = λ rules sets memory h stands. value ∙ used {k = seen c.args.self.now memory} rules sets h stands }
