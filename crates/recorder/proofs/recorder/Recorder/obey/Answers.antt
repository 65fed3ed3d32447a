use Rattle.record.specs.Contents.{seen as record_seen}
use Rattle.recorder.specs.Control.{controls}
use Rattle.recorder.proofs.Obeys.{write_obeyed, read_obeyed}
use Rattle.recorder.proofs.recorder.Recorder.obey.Goals as goal

pub returns-in-Write-clause-after : goal.returns-in-Write-clause-after
returns-in-Write-clause-after g c =
    let chip = c.args.self.now.chip in
    rw c.in-Write.is (write_obeyed (controls chip.control c.args.journal.now) (record_seen chip.record c.args.log.now) _ _
    c.take_clear_enable-enabled.ensures.after _ c.in-Write.address c.in-Write.value c.write.ensures.after)

pub returns-in-Read-clause-after : goal.returns-in-Read-clause-after
returns-in-Read-clause-after g c =
    let chip = c.args.self.now.chip in
    rw c.in-Read.is (read_obeyed (controls chip.control c.args.journal.now) (record_seen chip.record c.args.log.now) (g.L.Line.meaning c.args.self.now.line) _
    c.take_clear_enable-enabled.ensures.after _ c.in-Read.address c.reply.ensures.line)
