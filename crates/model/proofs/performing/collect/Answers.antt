use Rattle.std.proofs.Common.{◌≡◌, is_ok, rules}
use Rattle.line.specs.Collecting.{collect_answer}
use Rattle.model.proofs.Fronts.{collected_back, collected_fits}
use Rattle.model.proofs.performing.collect.Goals as goal

pub returns-clause-after : goal.returns-clause-after
returns-clause-after g c log journal =
    let m = g.L.Line.meaning c.args.recorder.now.line in
    let got : c.collect.result ≡ collect_answer (g.L.Line.wire m.bytes) m c.args.room = search rules in
    rw got at (c.collect.ensures.after log journal)

pub returns-clause-wire : goal.returns-clause-wire
returns-clause-wire g c =
    let m = g.L.Line.meaning c.args.recorder.now.line in
    let w = g.L.Line.wire m.bytes in
    let got : c.collect.result ≡ collect_answer w m c.args.room = search rules in
    collected_back (is_ok (collect_answer w m c.args.room)) w c.args.wire.now _ c.args.room (collected_fits w m c.args.room) (rw got at c.collect.ensures.buffer)
