use Rattle.recorder.proofs.chip.Chip.new.Goals as goal

pub returns : goal.returns
returns c log journal =
    rw (c.new.ensures, c.new-2.ensures, c.new-3.ensures, c.new-4.ensures.place, c.new-5.ensures.value log)
