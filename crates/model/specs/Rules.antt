-- What each call makes of the model, and what it answers.
use Rattle.std.specs.Prelude.{ℕ, Bool, true, false, cond, ◌&&◌, [], ◌∷◌, ◌++◌, is_ok, Ok, Err, Result, nat_lt}
use Rattle.clock.specs.Ticking.{rolls_over}
use Rattle.command.specs.declared.command.Command.{Command}
use Rattle.command.specs.declared.command.Command.TheVariants.{Write, Read, ReadSensors, Clear}
use Rattle.command.specs.declared.command.Heard.{Heard}
use Rattle.command.specs.declared.command.Heard.TheVariants.{Part, Whole, Unknown}
use Rattle.line.specs.Reply.{reply}
use Rattle.memory.specs.declared.event.EventKind.TheVariants as kind
use Rattle.mission.specs.Schedule.{due}
use Rattle.mission.specs.PerChannel.{Codes}
use Rattle.refusal.specs.declared.refusal.Refusal.{Refusal}
use Rattle.refusal.specs.declared.refusal.Refusal.TheVariants.{UnknownCommand, OutsideMap, InMission, ClearDisabled}
use Rattle.registers.specs.Contents.{with_ready}
use Rattle.registers.specs.Steps.{channels_on, tick_after, latch_after, count_down_after, take_enable_after, start_after, clear_after}
use Rattle.registers.specs.Writing.{write_answer, write_after, stops as stopping}
use Rattle.recorder.specs.Control.{entry, stop_kind, starts as starting, press_starts}
use Rattle.recorder.specs.Map.{page_from}
use Rattle.recorder.specs.Seconds.{sampled_registers}
use Rattle.model.specs.Model.{Model, total_of, with_registers, with_received, with_line, with_sensing, starts, stops, clears, rolls, adds}
use Rattle.model.specs.Stand.{stand}

-- A mission starts: the record is no longer cleared. The address is the one that was written, or 0 for the button.
abbrev pub started : Model → ℕ → Model
started m address = starts m (start_after m.registers) (entry kind.Start address (total_of m))

-- A mission in progress stops.
abbrev pub stopped : Model → ℕ → Model
stopped m address = cond m.in_mission (stops m (entry (stop_kind address) address (total_of m))) m

-- An accepted clear: one event, also where a mission was in progress.
abbrev pub cleared : Model → Model
cleared m = clears m (clear_after m.registers) (entry kind.Clear 0 (total_of m))

-- An accepted write: the register changes, a mission in progress may stop, and one may start.
abbrev pub accepted : Model → ℕ → ℕ → Model
accepted m address value =
    let stored = with_registers m (write_after m.registers address value) in
    let left = cond (stopping address value) (stopped stored address) stored in
    cond (starting m.registers address value) (started left address) left

abbrev pub written : Model → ℕ → ℕ → Model
written m address value = cond (is_ok (write_answer m.registers address value)) (accepted m address value) m

-- A read replies with the model's bytes from its address to the end of its page.
abbrev pub replies : Model → ℕ → Model
replies m address = with_line m (reply (page_from (stand m).contents address) true)

-- The answer to a whole command, where `enabled` tells whether a clear was enabled before it.
abbrev pub command_answer : Model → Bool → Command → Result (Unit {0}) Refusal
command_answer m enabled (Write address value) = write_answer m.registers address value
command_answer m enabled (Read address) = cond (nat_lt address 0x1800) (Ok tt) (Err (OutsideMap address))
command_answer m enabled ReadSensors = cond m.in_mission (Err InMission) (Ok tt)
command_answer m enabled Clear = cond enabled (Ok tt) (Err ClearDisabled)

abbrev pub commanded : Model → Bool → Command → Model
commanded m enabled (Write address value) = written m address value
commanded m enabled (Read address) = cond (nat_lt address 0x1800) (replies m address) m
commanded m enabled ReadSensors = cond m.in_mission m (with_sensing m (with_ready m.registers false) true)
commanded m enabled Clear = cond enabled (cleared m) m

-- The clear enable is used up.
abbrev pub enable_used : Model → Model
enable_used m = with_registers m (take_enable_after m.registers)

-- A byte that no reply keeps out: it joins the command, completes it, or begins none.
abbrev pub heard : Model → ℕ → Heard → Model
heard m byte Part = with_received m (m.received ++ byte ∷ [])
heard m byte (Whole command) = commanded (enable_used (with_received m [])) m.registers.clear_enabled command
heard m byte Unknown = enable_used (with_received m [])

abbrev pub heard_answer : Model → ℕ → Heard → Result (Unit {0}) Refusal
heard_answer m byte Part = Ok tt
heard_answer m byte (Whole command) = command_answer (enable_used (with_received m [])) m.registers.clear_enabled command
heard_answer m byte Unknown = Err (UnknownCommand byte)

-- An open sensor read is served by the second.
abbrev pub served : Model → Codes → Model
served m codes =
    cond m.sensing (with_sensing m (with_ready (latch_after m.registers (channels_on m.registers) codes) true) false) m

-- A set is taken: what the second brought, and the clock then.
abbrev pub sampled : Model → Codes → Model
sampled m codes =
    adds m (sampled_registers m.registers m.plan.rules codes) (record { codes = codes; moment = m.registers.moment })

-- Rollover k of a mission: the delay register falls, and a set that is due is taken.
abbrev pub rolled : Model → Codes → Model
rolled m codes =
    let on = rolls m (count_down_after m.registers) in
    cond (due m.plan.delay m.plan.rate on.k) (sampled on codes) on

-- A second passes: the clock moves, an open sensor read is served, and a rollover counts for a mission in progress.
abbrev pub passed : Model → Codes → Model
passed m codes =
    let on = served (with_registers m (tick_after m.registers)) codes in
    cond (rolls_over m.registers.moment && m.in_mission) (rolled on codes) on

abbrev pub pressed : Model → Model
pressed m = cond (press_starts m.registers) (started m 0) m
