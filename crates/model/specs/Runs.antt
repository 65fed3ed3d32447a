-- Whole runs: a fold of the model over a list of calls.
use Rattle.std.specs.Prelude.{ℕ, cond, List, [], ◌∷◌, ◌++◌, replicate, is_ok, Ok, Err, Result, nat_lt}
use Rattle.command.specs.Commands.{heard_of}
use Rattle.line.specs.Collecting.{over, collect_answer}
use Rattle.line.specs.Reply.{emptied}
use Rattle.memory.specs.Serving.{serves}
use Rattle.refusal.specs.declared.refusal.Refusal.{Refusal}
use Rattle.refusal.specs.declared.refusal.Refusal.TheVariants.{MemoryLength, ReplyWaits, BadTemperature}
use Rattle.recorder.specs.Control.{press_starts}
use Rattle.model.specs.Answers.{Answer, done, collected}
use Rattle.model.specs.declared.calls.Action.{Action}
use Rattle.model.specs.declared.calls.Action.TheVariants.{Byte, Second, Press}
use Rattle.model.specs.declared.calls.Call.{Call}
use Rattle.model.specs.declared.calls.Call.TheVariants.{Lent, Gap, Collect}
use Rattle.model.specs.declared.calls.Success.TheVariants.{Done, Pressed}
use Rattle.model.specs.declared.calls.Outcome.{Outcome}
use Rattle.model.specs.Model.{Model, current_of, total_of, with_received, with_line}
use Rattle.model.specs.Rules.{heard, heard_answer, passed, pressed}

-- what a byte makes of the command so far
abbrev pub heard_by : Model → ℕ → Model
heard_by m byte = heard m byte (heard_of (m.received ++ byte ∷ []))

abbrev pub byte_answer : Model → ℕ → Answer
byte_answer m byte = done (heard_answer m byte (heard_of (m.received ++ byte ∷ [])))

-- The model after an action of a recorder that is lent memories that can serve.
abbrev pub acted : Model → Action → Model
acted m (Byte byte) = cond m.line.waits m (heard_by m byte)
acted m (Second codes) = cond (nat_lt 250 codes.temperature) m (passed m codes)
acted m Press = pressed m

-- What such an action answers.
abbrev pub action_answer : Model → Action → Answer
action_answer m (Byte byte) = cond m.line.waits (Err ReplyWaits) (byte_answer m byte)
action_answer m (Second codes) = cond (nat_lt 250 codes.temperature) (Err (BadTemperature codes.temperature)) (Ok Done)
action_answer m Press = Ok (Pressed (press_starts m.registers))

-- The wire bytes of a reply go by the line's `wire`.
module _ (wire : List ℕ → List ℕ) where
  -- what a collection into a buffer of this length answers
  abbrev pub collect_result : Model → ℕ → Result ℕ Refusal
  collect_result m room = collect_answer (wire m.line.bytes) m.line room

  -- The model after a call. Memories that cannot serve leave it as it was.
  abbrev pub after : Model → Call → Model
  after m (Lent log journal action) = cond (serves log journal) (acted m action) m
  after m Gap = with_received m []
  after m (Collect room) = cond (is_ok (collect_result m room)) (with_line m emptied) m

  -- What a call answers.
  abbrev pub answer : Model → Call → Answer
  answer m (Lent log journal action) = cond (serves log journal) (action_answer m action) (Err MemoryLength)
  answer m Gap = Ok Done
  answer m (Collect room) = collected (collect_result m room)

  -- The wire bytes that a call collects, and then zeros up to 80.
  abbrev pub wire_noted : Model → Call → List ℕ
  wire_noted m (Lent log journal action) = replicate 80 0
  wire_noted m Gap = replicate 80 0
  wire_noted m (Collect room) = cond (is_ok (collect_result m room)) (over (wire m.line.bytes) (replicate 80 0)) (replicate 80 0)

  -- What is noted of a call.
  abbrev pub outcome : Model → Call → Outcome
  outcome m c = record { answer = answer m c; wire = wire_noted m c; current = current_of (after m c); total = total_of (after m c) }

  -- What is noted of a run, and the model that it leaves.
  abbrev pub story : Model → List Call → List Outcome
  story m [] = []
  story m (c ∷ cs) = outcome m c ∷ story (after m c) cs

  abbrev pub ends : Model → List Call → Model
  ends m [] = m
  ends m (c ∷ cs) = ends (after m c) cs
