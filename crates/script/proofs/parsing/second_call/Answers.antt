use Rattle.script.proofs.Calls.{second_read}
use Rattle.script.proofs.parsing.second_call.Goals as goal

pub returns : goal.returns
returns c =
    rw c.alone.ensures
    (second_read _ c.in_ok-temperature.ensures c.in_ok-one.ensures c.in_ok-two.ensures c.in_ok-three.ensures)
