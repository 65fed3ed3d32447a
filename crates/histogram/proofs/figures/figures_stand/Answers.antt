use Rattle.std.proofs.Common.{refl, arith}
use Rattle.histogram.specs.Bins.{bins_after}
use Rattle.histogram.proofs.figures.figures_stand.Goals as goal

pub returns : goal.returns
unfolding bins_after
returns c = record { answer = refl; figures = ((record { code = 250; lawful = omega arith }, refl), refl, λ t. omega (arith, t.0.lawful, t.1), refl, refl, refl, refl) }
