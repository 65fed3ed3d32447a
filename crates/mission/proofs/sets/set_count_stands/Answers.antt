use Rattle.std.proofs.Common.{refl}
use Rattle.mission.proofs.DueCounts.{set_count}
use Rattle.mission.proofs.sets.set_count_stands.Goals as goal

pub returns : goal.returns
returns c = record { answer = refl; stands = set_count }
