use Rattle.std.proofs.Common.{◌≡◌, true, eqb, length, replicate, rules}
use Rattle.std.proofs.lemmas.Bool.{and_parts, eqb-true}
use Rattle.memory.specs.Events.{blank_entry}
use Rattle.memory.specs.Serving.{serves}
use Rattle.recorder.proofs.recorder.Recorder.make.Goals as goal

pub returns : goal.returns
returns g c =
    let log = length c.args.log.now in
    let journal = length c.args.journal.now in
    let whole : serves log journal ≡ true = search rules in
    let zeros : c.fill.new.self ≡ replicate log 0 = search rules in
    let blanks : c.fill-2.new.self ≡ replicate journal blank_entry = search rules in
    let lengths = and_parts (eqb log 2048) (eqb journal 16) whole in
    (whole, rw (c.new-chip.ensures c.fill.new.self c.fill-2.new.self, c.open.ensures, zeros, blanks, eqb-true log 2048 lengths.0, eqb-true journal 16 lengths.1))
