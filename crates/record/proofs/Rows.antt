-- The row of a set: with a channel on it has the width that the channels give.
use Rattle.std.proofs.Common.{◌≡◌, true, arith}
use Rattle.std.proofs.lemmas.Bool.Decides.{nat_tests}
use Rattle.memory.specs.Rows.{width_of}
use Rattle.memory.specs.Logs.{Width}
use Rattle.mission.specs.Channels.{any_on, number_on, row_width}
use Rattle.mission.specs.PerChannel.{Channels, Codes}
use Rattle.record.specs.Sets.{row_with}

-- The row is as wide as the channels say.
pub wide_row : (channels : Channels) (codes : Codes) → any_on channels ≡ true → width_of (row_with channels codes) ≡ row_width (number_on channels)
wide_row channels codes h = grind (arith, nat_tests)

-- That is one of the three widths.
pub lawful_width : (channels : Channels) → any_on channels ≡ true → Width (row_width (number_on channels))
lawful_width channels h = grind (arith, nat_tests)
