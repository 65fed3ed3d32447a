use Rattle.std.proofs.Common.{rules}
use Rattle.record.specs.Sets.{SampleSet, Rules, rules_of, sampled}
use Rattle.record.proofs.Records.{follows, reads_follow}
use Rattle.record.proofs.record.Record.take.Goals as goal

pub returns : goal.returns
returns c =
    let p : Rules = rules_of c.args.setting.now in
    let s : SampleSet = sampled c.args.codes c.args.clock.now.moment in
    record {
      step = search rules;
      law = λ sets low stands. follows p sets s c.args.setting.now.sampled low stands (search rules);
      reads = λ sets stands. reads_follow p sets s c.args.setting.now.sampled stands (search rules);
    }
