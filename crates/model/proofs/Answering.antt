-- Every call of what stands for a model answers what the model answers, and collects the same wire bytes.
use Rattle.std.proofs.Common.{◌≡◌, ℕ, Bool, true, false, cond, ltb, List, [], ◌∷◌, ◌++◌, Ok, Err, Result, refl, ap, ◌∙◌}
use Rattle.command.specs.Commands.{heard_of}
use Rattle.command.specs.declared.command.Command.{Command}
use Rattle.command.specs.declared.command.Command.TheVariants.{Write, Read, ReadSensors, Clear}
use Rattle.command.specs.declared.command.Heard.{Heard}
use Rattle.command.specs.declared.command.Heard.TheVariants.{Part, Whole, Unknown}
use Rattle.memory.specs.Serving.{serves}
use Rattle.mission.specs.PerChannel.{Codes}
use Rattle.refusal.specs.declared.refusal.Refusal.{Refusal}
use Rattle.refusal.specs.declared.refusal.Refusal.TheVariants.{MemoryLength, ReplyWaits, BadTemperature}
use Rattle.recorder.specs.Commands.{command_answer}
use Rattle.recorder.specs.State.{heard_answer, byte_answer, second_answer, press_answer}
use Rattle.recorder.specs.Control.{press_starts}
use Rattle.model.specs.Answers.{Answer, done, pressed}
use Rattle.model.specs.declared.calls.Action.{Action}
use Rattle.model.specs.declared.calls.Action.TheVariants.{Byte, Second, Press}
use Rattle.model.specs.declared.calls.Call.{Call}
use Rattle.model.specs.declared.calls.Call.TheVariants.{Lent, Gap, Collect}
use Rattle.model.specs.declared.calls.Success.TheVariants.{Done, Pressed}
use Rattle.model.specs.Model.{Model, with_received}
use Rattle.model.specs.Rules.{enable_used, command_answer as model_command_answer, heard_answer as model_heard_answer}
use Rattle.model.specs.Runs.{byte_answer as model_byte_answer, answer, wire_noted, action_answer}
use Rattle.model.specs.Stand.{contents_of, stand}
use Rattle.model.specs.Steps.{call_answer, call_wire, act_answer}
use Rattle.model.proofs.Changes.{set_running}
use Rattle.model.proofs.Parts.{served}

done_chosen : (t : Bool) (p q : Result (Unit {0}) Refusal) → done (cond t p q) ≡ cond t (done p) (done q)
done_chosen true p q = refl
done_chosen false p q = refl

sensors_answer : (m : Model) (b : Bool) → command_answer (contents_of (set_running m b)) false ReadSensors ≡ model_command_answer (set_running m b) false ReadSensors
sensors_answer m true = refl
sensors_answer m false = refl

command_answers : (m : Model) (enabled : Bool) (command : Command) → command_answer (contents_of m) enabled command ≡ model_command_answer m enabled command
command_answers m enabled (Write address value) = refl
command_answers m enabled (Read address) = refl
command_answers m enabled ReadSensors = sensors_answer m m.in_mission
command_answers m enabled Clear = refl

heard_answers : (m : Model) (byte : ℕ) (h : Heard) → heard_answer (stand m) byte h ≡ model_heard_answer m byte h
heard_answers m byte Part = refl
heard_answers m byte (Whole command) = command_answers (enable_used (with_received m [])) m.registers.clear_enabled command
heard_answers m byte Unknown = refl

byte_answers : (m : Model) (byte : ℕ) → done (byte_answer (stand m) byte) ≡ cond m.line.waits (Err ReplyWaits) (model_byte_answer m byte)
byte_answers m byte =
    ap done (served m _ _)
    ∙ done_chosen m.line.waits (Err ReplyWaits) _
    ∙ ap (λ (r : Result (Unit {0}) Refusal). cond m.line.waits (Err ReplyWaits) (done r)) (heard_answers m byte (heard_of (m.received ++ byte ∷ [])))

second_answers : (m : Model) (codes : Codes)
    → done (second_answer (stand m) codes) ≡ cond (ltb 250 codes.temperature) (Err (BadTemperature codes.temperature)) (Ok Done)
second_answers m codes = ap done (served m _ _) ∙ done_chosen (ltb 250 codes.temperature) (Err (BadTemperature codes.temperature)) (Ok tt)

press_answers : (m : Model) → pressed (press_answer (stand m)) ≡ Ok (Pressed (press_starts m.registers))
press_answers m = ap pressed (served m (Ok (press_starts m.registers)) _)

action_answers : (m : Model) (action : Action) → act_answer (stand m) action ≡ action_answer m action
action_answers m (Byte byte) = byte_answers m byte
action_answers m (Second codes) = second_answers m codes
action_answers m Press = press_answers m

module _ (wire : List ℕ → List ℕ) where
  pub answer_stands : (m : Model) (c : Call) → call_answer wire (stand m) c ≡ answer wire m c
  answer_stands m (Lent log journal action) = ap (λ (a : Answer). cond (serves log journal) a (Err MemoryLength)) (action_answers m action)
  answer_stands m Gap = refl
  answer_stands m (Collect room) = refl

  pub wire_stands : (m : Model) (c : Call) → call_wire wire (stand m) c ≡ wire_noted wire m c
  wire_stands m (Lent log journal action) = refl
  wire_stands m Gap = refl
  wire_stands m (Collect room) = refl
