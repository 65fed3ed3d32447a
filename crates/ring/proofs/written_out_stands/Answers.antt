use Rattle.ring.proofs.Rings.{blank_at_first, no_other_stands, written_out_stands_lem}
use Rattle.ring.proofs.written_out_stands.Goals as goal

pub returns-clause-stands : goal.returns-clause-stands
returns-clause-stands g c = written_out_stands_lem _

pub returns-clause-only : goal.returns-clause-only
returns-clause-only g c = no_other_stands _

pub returns-clause-blank : goal.returns-clause-blank
returns-clause-blank g c = blank_at_first _
