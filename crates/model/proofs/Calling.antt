-- Every call of what stands for a sound model leaves what stands for the model after it, and that is sound.
use Rattle.std.proofs.Common.{◌≡◌, ℕ, Bool, true, false, cond, ltb, List, [], ◌∷◌, ◌++◌, is_ok, refl, ap, ◌∙◌}
use Rattle.std.proofs.lemmas.Bool.{ltb-false, cond_both}
use Rattle.command.specs.Commands.{heard_of}
use Rattle.command.specs.declared.command.Command.{Command}
use Rattle.command.specs.declared.command.Command.TheVariants.{Write, Read, ReadSensors, Clear}
use Rattle.command.specs.declared.command.Heard.{Heard}
use Rattle.command.specs.declared.command.Heard.TheVariants.{Part, Whole, Unknown}
use Rattle.line.specs.Reply.{Reply}
use Rattle.memory.specs.Serving.{serves}
use Rattle.mission.specs.PerChannel.{Codes}
use Rattle.recorder.specs.Commands.{command_after}
use Rattle.recorder.specs.State.{state, line_after, heard_after, byte_after, second_after, press_after}
use Rattle.model.specs.declared.calls.Action.{Action}
use Rattle.model.specs.declared.calls.Action.TheVariants.{Byte, Second, Press}
use Rattle.model.specs.declared.calls.Call.{Call}
use Rattle.model.specs.declared.calls.Call.TheVariants.{Lent, Gap, Collect}
use Rattle.model.specs.Model.{Model, with_received}
use Rattle.model.specs.Rules.{enable_used, commanded, heard, passed, pressed}
use Rattle.model.specs.Runs.{heard_by, collect_result, after, acted}
use Rattle.model.proofs.Invariants.{Sound}
use Rattle.model.specs.Stand.{contents_of, stand}
use Rattle.model.specs.Steps.{call_after, act_after}
use Rattle.model.proofs.Changes.{set_running, cleared_stands}
use Rattle.model.proofs.Parts.{served, page_sent}
use Rattle.model.proofs.Seconds.{passed_stands, passed_sound, pressed_stands, pressed_sound}
use Rattle.model.proofs.Sounds.{cleared_sound}
use Rattle.model.proofs.Ways.{chosen}
use Rattle.model.proofs.Writes.{written_stands, written_sound}

-- ---- commands

sensors_stand : (m : Model) (b : Bool)
    → state (command_after (contents_of (set_running m b)) false ReadSensors) m.line ≡ stand (commanded (set_running m b) false ReadSensors)
sensors_stand m true = refl
sensors_stand m false = refl

commanded_stands : (m : Model) (enabled : Bool) (command : Command) → Sound m
    → state (command_after (contents_of m) enabled command) (line_after (contents_of m) command m.line) ≡ stand (commanded m enabled command)
commanded_stands m enabled (Write address value) s = written_stands m address value s
commanded_stands m enabled (Read address) s =
    chosen (λ line. state (contents_of m) line) (ltb address 0x1800) _ _ _ _
    (λ _. ap (λ (line : Reply). state (contents_of m) line) (page_sent (contents_of m) address))
    (λ _. refl)
commanded_stands m enabled ReadSensors s = sensors_stand m m.in_mission
commanded_stands m enabled Clear s = chosen (λ c. state c m.line) enabled _ _ _ _ (λ _. cleared_stands m) (λ _. refl)

commanded_sound : (m : Model) (enabled : Bool) (command : Command) → Sound m → Sound (commanded m enabled command)
commanded_sound m enabled (Write address value) s = written_sound m address value s
commanded_sound m enabled (Read address) s = cond_both (ltb address 0x1800) _ _ Sound (λ _. s) (λ _. s)
commanded_sound m enabled ReadSensors s = cond_both m.in_mission _ _ Sound (λ _. s) (λ _. s)
commanded_sound m enabled Clear s = cond_both enabled _ _ Sound (λ _. cleared_sound m) (λ _. s)

-- ---- bytes

heard_stands : (m : Model) (byte : ℕ) (h : Heard) → Sound m → heard_after (stand m) byte h ≡ stand (heard m byte h)
heard_stands m byte Part s = refl
heard_stands m byte (Whole command) s = commanded_stands (enable_used (with_received m [])) m.registers.clear_enabled command s
heard_stands m byte Unknown s = refl

heard_sound : (m : Model) (byte : ℕ) (h : Heard) → Sound m → Sound (heard m byte h)
heard_sound m byte Part s = s
heard_sound m byte (Whole command) s = commanded_sound (enable_used (with_received m [])) m.registers.clear_enabled command s
heard_sound m byte Unknown s = s

byte_stands : (m : Model) (byte : ℕ) → Sound m → byte_after (stand m) byte ≡ stand (cond m.line.waits m (heard_by m byte))
byte_stands m byte s =
    served m _ _
    ∙ chosen (λ x. x) m.line.waits _ _ _ _ (λ _. refl) (λ _. heard_stands m byte (heard_of (m.received ++ byte ∷ [])) s)

-- ---- calls

second_stands : (m : Model) (codes : Codes) → Sound m
    → second_after (stand m) codes ≡ stand (cond (ltb 250 codes.temperature) m (passed m codes))
second_stands m codes s =
    served m _ _
    ∙ chosen (λ x. x) (ltb 250 codes.temperature) _ _ _ _ (λ _. refl)
    (λ e. passed_stands codes (ltb-false 250 codes.temperature e) m s)

press_stands : (m : Model) → Sound m → press_after (stand m) ≡ stand (pressed m)
press_stands m s = served m _ _ ∙ pressed_stands m s

act_stands : (m : Model) (action : Action) → Sound m → act_after (stand m) action ≡ stand (acted m action)
act_stands m (Byte byte) s = byte_stands m byte s
act_stands m (Second codes) s = second_stands m codes s
act_stands m Press s = press_stands m s

acted_sound : (m : Model) (action : Action) → Sound m → Sound (acted m action)
acted_sound m (Byte byte) s = cond_both m.line.waits _ _ Sound (λ _. s) (λ _. heard_sound m byte (heard_of (m.received ++ byte ∷ [])) s)
acted_sound m (Second codes) s = cond_both (ltb 250 codes.temperature) _ _ Sound (λ _. s) (λ _. passed_sound codes m s)
acted_sound m Press s = pressed_sound m s

module _ (wire : List ℕ → List ℕ) where
  pub after_stands : (m : Model) (c : Call) → Sound m → call_after wire (stand m) c ≡ stand (after wire m c)
  after_stands m (Lent log journal action) s = chosen (λ x. x) (serves log journal) _ _ _ _ (λ _. act_stands m action s) (λ _. refl)
  after_stands m Gap s = refl
  after_stands m (Collect room) s = chosen (λ line. state (contents_of m) line) (is_ok (collect_result wire m room)) _ _ _ _ (λ _. refl) (λ _. refl)

  pub after_sound : (m : Model) (c : Call) → Sound m → Sound (after wire m c)
  after_sound m (Lent log journal action) s = cond_both (serves log journal) _ _ Sound (λ _. acted_sound m action s) (λ _. s)
  after_sound m Gap s = s
  after_sound m (Collect room) s = cond_both (is_ok (collect_result wire m room)) _ _ Sound (λ _. s) (λ _. s)
