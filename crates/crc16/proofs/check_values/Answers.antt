use Rattle.std.proofs.Common.{refl}
use Rattle.crc16.specs.Division.{taken}
use Rattle.crc16.proofs.check_values.Goals as goal

pub returns : goal.returns
unfolding taken
returns c = refl
