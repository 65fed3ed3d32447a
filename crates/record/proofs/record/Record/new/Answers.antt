use Rattle.std.proofs.Common.{refl}
use Rattle.record.proofs.Records.{same, starts}
use Rattle.record.proofs.record.Record.new.Goals as goal

pub returns : goal.returns
returns c = record {
  value = λ memory.
      same c.new.ensures refl c.new-2.ensures.place c.new-2.ensures.full refl c.new-3.ensures.zeros c.new-4.ensures.zeros
      c.new-5.ensures c.new-6.ensures c.new-7.ensures c.new-8.ensures;
  law = λ rules memory size blank. starts rules memory size blank
      (same c.new.ensures refl c.new-2.ensures.place c.new-2.ensures.full refl c.new-3.ensures.zeros c.new-4.ensures.zeros
      c.new-5.ensures c.new-6.ensures c.new-7.ensures c.new-8.ensures);
}
