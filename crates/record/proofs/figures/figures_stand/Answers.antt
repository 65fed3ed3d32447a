use Rattle.std.proofs.Common.{true, false, [], ◌∷◌, refl, arith}
use Rattle.histogram.specs.Bins.{bins_after}
use Rattle.record.specs.Figures.{three, rules, both, codes, late, later, latest}
use Rattle.record.specs.Histories.{Reads}
use Rattle.record.specs.Sets.{sampled}
use Rattle.record.proofs.Logged.{reads_of}
use Rattle.record.proofs.figures.figures_stand.Goals as goal

pub returns : goal.returns
unfolding bins_after
returns c =
    let log : Reads (rules true false) three both.memory
    = reads_of (rules true false) refl (sampled (codes 100 50) late ∷ sampled (codes 130 50) later ∷ []) (sampled (codes 131 9) latest) in
    let in_log = log.kept in
    record {
      answer = refl;
      figures = (
        (refl, refl, refl, refl, refl),
        (
          refl,
          refl,
          refl,
          in_log 0 0 (omega arith) (omega arith) (omega arith),
          in_log 1 1 (omega arith) (omega arith) (omega arith),
          in_log 2 1 (omega arith) (omega arith) (omega arith),
          log.unwritten 6 (omega arith) (omega arith),
          refl,
        ),
        (refl, refl, refl, refl, refl, refl),
        (refl, refl, refl, refl, refl, refl, refl),
      );
    }
