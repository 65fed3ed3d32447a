-- What a call changes of the sets, of how many were made, and of the line.
use Rattle.std.proofs.Common.{◌≡◌, ℕ, ◌+◌, ◌<◌, true, false, cond, ◌&&◌, eqb, ltb, List, [], ◌∷◌, ◌++◌, is_ok, refl, ap, subst}
use Rattle.std.proofs.lemmas.Bool.{and_parts, cond_both, eqb-true, ltb-true}
use Rattle.clock.specs.Ticking.{rolls_over}
use Rattle.command.specs.Commands.{heard_of}
use Rattle.command.specs.declared.command.Command.{Command}
use Rattle.command.specs.declared.command.Command.TheVariants.{Write, Read, ReadSensors, Clear}
use Rattle.command.specs.declared.command.Heard.{Heard}
use Rattle.command.specs.declared.command.Heard.TheVariants.{Part, Whole, Unknown}
use Rattle.line.specs.Reply.{reply, emptied}
use Rattle.memory.specs.Serving.{serves}
use Rattle.mission.specs.Schedule.{due}
use Rattle.mission.specs.PerChannel.{Codes}
use Rattle.record.specs.Sets.{SampleSet}
use Rattle.registers.specs.Steps.{tick_after, count_down_after}
use Rattle.registers.specs.Writing.{write_answer, write_after, stops as stopping}
use Rattle.recorder.specs.Control.{starts as starting, press_starts}
use Rattle.recorder.specs.Map.{page_from}
use Rattle.model.specs.declared.calls.Action.{Action}
use Rattle.model.specs.declared.calls.Action.TheVariants.{Byte, Second, Press}
use Rattle.model.specs.declared.calls.Call.{Call}
use Rattle.model.specs.declared.calls.Call.TheVariants.{Lent, Gap, Collect}
use Rattle.model.specs.Model.{Model, with_registers, with_received, with_line, rolls}
use Rattle.model.specs.Stand.{stand}
use Rattle.model.specs.Rules.{started, stopped, cleared, accepted, written, replies, commanded, enable_used, heard}
use Rattle.model.specs.Rules.{served, sampled, rolled, passed, pressed}
use Rattle.model.specs.Runs.{after, collect_result, heard_by}
use Rattle.model.proofs.Ways.{either}

-- Sets, their number and the line are as they were.
pub record Kept (m x : Model) : Type 0 where
  pub sets : x.sets ≡ m.sets
  pub made : x.made ≡ m.made
  pub line : x.line ≡ m.line

-- A read was accepted by this call: its page waits, as it is after the call.
pub record Sent (m : Model) (c : Call) (x : Model) : Type 0 where
  pub address : ℕ
  pub byte : ℕ
  pub arrives : c ≡ Lent 2048 16 (Byte byte)
  pub free : m.line.waits ≡ false
  pub whole : heard_of (m.received ++ byte ∷ []) ≡ Whole (Read address)
  pub inside : address < 0x1800
  pub line : x.line ≡ reply (page_from (stand x).contents address) true

-- A set was brought by this call: a second with its codes, whose temperature code is at most 250.
pub record Brought (c : Call) (set : SampleSet) : Type 0 where
  pub log : ℕ
  pub journal : ℕ
  pub arrives : c ≡ Lent log journal (Second set.codes)
  pub accepted : ltb 250 set.codes.temperature ≡ false

-- What a call did to the model m, which is x after it.
pub data Did (m : Model) (c : Call) (x : Model) : Type 0 where
  kept : Kept m x → Did m c x
  took : (set : SampleSet) → Brought c set → x.sets ≡ m.sets ++ set ∷ [] → x.made ≡ m.made + 1 → x.line ≡ m.line → Did m c x
  wiped : x.sets ≡ [] → x.made ≡ m.made → x.line ≡ m.line → Did m c x
  sent : x.sets ≡ m.sets → x.made ≡ m.made → Sent m c x → Did m c x
  gave : x.sets ≡ m.sets → x.made ≡ m.made → x.line ≡ emptied → Did m c x

all_kept : (m : Model) → Kept m m
all_kept m = record { sets = refl; made = refl; line = refl }

-- ---- writes

stopped_kept : (m x : Model) (address : ℕ) → Kept m x → Kept m (stopped x address)
stopped_kept m x address k = either (Kept m) x.in_mission _ _ (record { sets = k.sets; made = k.made; line = k.line }) k

started_kept : (m x : Model) (address : ℕ) → Kept m x → Kept m (started x address)
started_kept m x address k = record { sets = k.sets; made = k.made; line = k.line }

written_kept : (m : Model) (address value : ℕ) → Kept m (written m address value)
written_kept m address value =
    let stored = with_registers m (write_after m.registers address value) in
    let left = cond (stopping address value) (stopped stored address) stored in
    let stored_kept : Kept m stored = record { sets = refl; made = refl; line = refl } in
    let left_kept : Kept m left =
    either (Kept m) (stopping address value) _ _ (stopped_kept m stored address stored_kept) stored_kept in
    let all : Kept m (accepted m address value) =
    either (Kept m) (starting m.registers address value) _ _ (started_kept m left address left_kept) left_kept in
    either (Kept m) (is_ok (write_answer m.registers address value)) _ _ all (all_kept m)

-- ---- bytes

module _ (m : Model) (byte : ℕ) where
  abbrev call : Call
  call = Lent 2048 16 (Byte byte)

  -- The model with the command gone and the clear enable used up.
  abbrev ready : Model
  ready = enable_used (with_received m [])

  ready_kept : Kept m ready
  ready_kept = record { sets = refl; made = refl; line = refl }

  read_did : (address : ℕ) → m.line.waits ≡ false → heard_of (m.received ++ byte ∷ []) ≡ Whole (Read address)
      → Did m call (commanded ready m.registers.clear_enabled (Read address))
  read_did address free whole =
      cond_both (ltb address 0x1800) (replies ready address) ready (Did m call)
      (λ e. sent refl refl (record {
        address = address;
        byte = byte;
        arrives = refl;
        free = free;
        whole = whole;
        inside = ltb-true address 0x1800 e;
        line = refl;
      }))
      (λ _. kept ready_kept)

  command_did : (command : Command) → m.line.waits ≡ false → heard_of (m.received ++ byte ∷ []) ≡ Whole command
      → Did m call (commanded ready m.registers.clear_enabled command)
  command_did (Write address value) free whole =
      let k = written_kept ready address value in
      kept (record { sets = k.sets; made = k.made; line = k.line })
  command_did (Read address) free whole = read_did address free whole
  command_did ReadSensors free whole =
      either (Did m call) m.in_mission _ _ (kept ready_kept) (kept (record { sets = refl; made = refl; line = refl }))
  command_did Clear free whole =
      either (Did m call) m.registers.clear_enabled (cleared ready) ready (wiped refl refl refl) (kept ready_kept)

  heard_did : (h : Heard) → m.line.waits ≡ false → heard_of (m.received ++ byte ∷ []) ≡ h → Did m call (heard m byte h)
  heard_did Part free e = kept (record { sets = refl; made = refl; line = refl })
  heard_did (Whole command) free e = command_did command free e
  heard_did Unknown free e = kept ready_kept

  byte_did : Did m call (cond m.line.waits m (heard_by m byte))
  byte_did =
      cond_both m.line.waits m (heard_by m byte) (Did m call)
      (λ _. kept (all_kept m)) (λ free. heard_did (heard_of (m.received ++ byte ∷ [])) free refl)

-- Memories that can serve have 2,048 bytes and 16 entries.
pub own_lengths : (log journal : ℕ) (action : Action) → serves log journal ≡ true → Lent 2048 16 action ≡ Lent log journal action
own_lengths log journal action e =
    let both = and_parts (eqb log 2048) (eqb journal 16) e in
    rw (eqb-true log 2048 both.0, eqb-true journal 16 both.1)

-- ---- seconds

served_kept : (m x : Model) (codes : Codes) → Kept m x → Kept m (served x codes)
served_kept m x codes k = either (Kept m) x.sensing _ _ (record { sets = k.sets; made = k.made; line = k.line }) k

module _ (m : Model) (log journal : ℕ) (codes : Codes) (cool : ltb 250 codes.temperature ≡ false) where
  abbrev second : Call
  second = Lent log journal (Second codes)

  rolled_did : (x : Model) → Kept m x → Did m second (rolled x codes)
  rolled_did x k =
      let on = rolls x (count_down_after x.registers) in
      let set : SampleSet = record { codes = codes; moment = x.registers.moment } in
      either (Did m second) (due x.plan.delay x.plan.rate on.k) (sampled on codes) on
      (took set (record { log = log; journal = journal; arrives = refl; accepted = cool })
      (ap (λ sets. sets ++ set ∷ []) k.sets) (ap (λ n. n + 1) k.made) k.line)
      (kept (record { sets = k.sets; made = k.made; line = k.line }))

  passed_did : Did m second (passed m codes)
  passed_did =
      let ticked = with_registers m (tick_after m.registers) in
      let on = served ticked codes in
      let k : Kept m on = served_kept m ticked codes (record { sets = refl; made = refl; line = refl }) in
      either (Did m second) (rolls_over m.registers.moment && m.in_mission) (rolled on codes) on (rolled_did on k) (kept k)

-- ---- every call

pub did : (wire : List ℕ → List ℕ) (m : Model) (c : Call) → Did m c (after wire m c)
did wire m (Lent log journal (Byte byte)) =
    cond_both (serves log journal) (cond m.line.waits m (heard_by m byte)) m (Did m (Lent log journal (Byte byte)))
    (λ e. subst (λ c. Did m c (cond m.line.waits m (heard_by m byte))) (own_lengths log journal (Byte byte) e) (byte_did m byte))
    (λ _. kept (all_kept m))
did wire m Gap = kept (record { sets = refl; made = refl; line = refl })
did wire m (Lent log journal (Second codes)) =
    let c = Lent log journal (Second codes) in
    let heeded = cond_both (ltb 250 codes.temperature) m (passed m codes) (Did m c) (λ _. kept (all_kept m)) (λ cool. passed_did m log journal codes cool) in
    either (Did m c) (serves log journal) (cond (ltb 250 codes.temperature) m (passed m codes)) m heeded (kept (all_kept m))
did wire m (Lent log journal Press) =
    let c = Lent log journal Press in
    let k : Kept m (pressed m) =
    either (Kept m) (press_starts m.registers) (started m 0) m (started_kept m m 0 (all_kept m)) (all_kept m) in
    either (Did m c) (serves log journal) (pressed m) m (kept k) (kept (all_kept m))
did wire m (Collect room) =
    either (Did m (Collect room)) (is_ok (collect_result wire m room)) (with_line m emptied) m (gave refl refl refl) (kept (all_kept m))
