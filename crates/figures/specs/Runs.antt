-- Runs of calls on a fresh recorder, with serial number 0 and its own memories lent.
use Rattle.std.specs.Prelude.{ℕ, List, map, replicate}
use Rattle.line.specs.Wires.{plain}
use Rattle.model.specs.Model.{Model, fresh}
use Rattle.model.specs.Runs.{story, ends}
use Rattle.model.specs.Stand.{stand}
use Rattle.model.specs.Answers.{Answer}
use Rattle.model.specs.declared.calls.Action.TheVariants.{Byte, Second}
use Rattle.model.specs.declared.calls.Call.{Call}
use Rattle.model.specs.declared.calls.Call.TheVariants.{Lent, Collect}
use Rattle.recorder.specs.Map.{map_at}
use Rattle.record.specs.Figures.{codes}

-- The recorder as it is made.
abbrev pub new : Model
new = fresh (replicate 8 0)

-- A byte arrives.
abbrev pub byte : ℕ → Call
byte value = Lent 2048 16 (Byte value)

-- A second passes with this temperature code.
abbrev pub second : ℕ → Call
second temperature = Lent 2048 16 (Second (codes temperature 50))

-- The reply is collected into 80 bytes.
abbrev pub collect : Call
collect = Collect 80

-- What the calls answer, over a line with these wire bytes.
abbrev pub answers : (List ℕ → List ℕ) → List Call → List Answer
answers wire calls = map (λ o. o.answer) (story wire new calls)

-- The byte of the address map after the calls, over the 3-wire line.
abbrev pub map_after : List Call → ℕ → ℕ
map_after calls address = map_at (stand (ends plain new calls)).contents address
