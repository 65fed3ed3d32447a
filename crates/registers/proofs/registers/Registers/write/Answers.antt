use Rattle.std.proofs.Common.{◌≡◌, ◌<◌, sym, subst, arith, rules}
use Rattle.registers.specs.Contents.{Contents, contents_of}
use Rattle.registers.specs.Laws.{OthersShow, ReadsBack}
use Rattle.registers.specs.Writing.{stored, taken, write_answer}
use Rattle.registers.proofs.Others.{stored_others}
use Rattle.registers.proofs.ReadBack.{stored_back}
use Rattle.registers.proofs.registers.Registers.write.Goals as goal

pub returns : goal.returns
returns c =
    let before = contents_of c.args.self.now in
    let address = c.args.address in
    let value = c.args.value in
    let small : value < 256 = omega arith in
    let answer : taken ≡ write_answer before address value = search rules in
    let after = sym c.store.ensures in
    let back : ReadsBack address value (stored before address value) =
    λ keeps running. stored_back before address value running small c.args.self.now.whole (sym answer) keeps in
    let others : OthersShow address before (stored before address value) =
    λ other ne running. stored_others before address value other ne running small in
    record {
      answer = answer;
      after = search rules;
      back = λ _. subst (λ (k : Contents). ReadsBack address value k) after back;
      others = subst (λ (k : Contents). OthersShow address before k) after others;
    }
