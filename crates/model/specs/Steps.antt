-- The same calls on what a recorder holds, with its own memories lent where a call says their lengths.
use Rattle.std.specs.Prelude.{ℕ, cond, List, [], ◌∷◌, replicate, is_ok, Ok, Err, Result}
use Rattle.line.specs.Collecting.{over, collect_answer}
use Rattle.line.specs.Reply.{emptied}
use Rattle.memory.specs.Serving.{serves}
use Rattle.refusal.specs.declared.refusal.Refusal.{Refusal}
use Rattle.refusal.specs.declared.refusal.Refusal.TheVariants.{MemoryLength}
use Rattle.recorder.specs.State.{State, state, byte_answer, byte_after, gap_after, second_answer, second_after, press_answer, press_after}
use Rattle.model.specs.Answers.{Answer, done, pressed, collected}
use Rattle.model.specs.declared.calls.Action.{Action}
use Rattle.model.specs.declared.calls.Action.TheVariants.{Byte, Second, Press}
use Rattle.model.specs.declared.calls.Call.{Call}
use Rattle.model.specs.declared.calls.Call.TheVariants.{Lent, Gap, Collect}
use Rattle.model.specs.declared.calls.Success.TheVariants.{Done}
use Rattle.model.specs.declared.calls.Outcome.{Outcome}

-- What an action answers, and what it leaves.
abbrev pub act_answer : State → Action → Answer
act_answer s (Byte byte) = done (byte_answer s byte)
act_answer s (Second codes) = done (second_answer s codes)
act_answer s Press = pressed (press_answer s)

abbrev pub act_after : State → Action → State
act_after s (Byte byte) = byte_after s byte
act_after s (Second codes) = second_after s codes
act_after s Press = press_after s

module _ (wire : List ℕ → List ℕ) where
  abbrev pub collect_result : State → ℕ → Result ℕ Refusal
  collect_result s room = collect_answer (wire s.line.bytes) s.line room

  abbrev pub call_answer : State → Call → Answer
  call_answer s (Lent log journal action) = cond (serves log journal) (act_answer s action) (Err MemoryLength)
  call_answer s Gap = Ok Done
  call_answer s (Collect room) = collected (collect_result s room)

  abbrev pub call_after : State → Call → State
  call_after s (Lent log journal action) = cond (serves log journal) (act_after s action) s
  call_after s Gap = gap_after s
  call_after s (Collect room) = state s.contents (cond (is_ok (collect_result s room)) emptied s.line)

  -- A buffer after a call: a collection writes its wire bytes to the front.
  abbrev pub wire_over : State → Call → List ℕ → List ℕ
  wire_over s (Lent log journal action) buffer = buffer
  wire_over s Gap buffer = buffer
  wire_over s (Collect room) buffer = cond (is_ok (collect_result s room)) (over (wire s.line.bytes) buffer) buffer

  -- The wire bytes that a call collects, and then zeros up to 80.
  abbrev pub call_wire : State → Call → List ℕ
  call_wire s c = wire_over s c (replicate 80 0)

  abbrev pub call_outcome : State → Call → Outcome
  call_outcome s c = record {
    answer = call_answer s c;
    wire = call_wire s c;
    current = (call_after s c).contents.recorded.current;
    total = (call_after s c).contents.total;
  }

  abbrev pub outcomes : State → List Call → List Outcome
  outcomes s [] = []
  outcomes s (c ∷ cs) = call_outcome s c ∷ outcomes (call_after s c) cs

  abbrev pub run_after : State → List Call → State
  run_after s [] = s
  run_after s (c ∷ cs) = run_after (call_after s c) cs
