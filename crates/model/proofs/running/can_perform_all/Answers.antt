use Rattle.std.proofs.Common.{rules}
use Rattle.std.proofs.lemmas.Iterator.{cases_from_all, YieldsList-from_slice}
use Rattle.model.proofs.Fitting.{Fitting, Unfit, told}
use Rattle.model.proofs.running.can_perform_all.Goals as goal

pub returns : goal.returns
returns c =
    let each = cases_from_all _ _ _ (Fitting c.args.spare_log c.args.spare_journal) (Unfit c.args.spare_log c.args.spare_journal) c.all.ensures.ran
    (YieldsList-from_slice c.args.calls.now cc) (λ x q k. search rules) (λ x q k. search rules) in
    let all = told c.args.spare_log c.args.spare_journal c.args.calls.now c.all.result each in
    record { fit = all.0; narrow = all.1 }
