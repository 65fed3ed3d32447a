-- What whole commands do.
use Rattle.std.specs.Prelude.{ℕ, Bool, true, false, cond, Ok, Err, Result, nat_lt}
use Rattle.command.specs.declared.command.Command.{Command}
use Rattle.command.specs.declared.command.Command.TheVariants.{Write, Read, ReadSensors, Clear}
use Rattle.refusal.specs.declared.refusal.Refusal.{Refusal}
use Rattle.refusal.specs.declared.refusal.Refusal.TheVariants.{OutsideMap, InMission, ClearDisabled}
use Rattle.registers.specs.Contents.{with_ready}
use Rattle.registers.specs.Steps.{take_enable_after}
use Rattle.registers.specs.Writing.{write_answer}
use Rattle.recorder.specs.Contents.{Contents, joined, controls_of, in_mission, with_registers, with_sensing}
use Rattle.recorder.specs.Control as control
use Rattle.recorder.specs.Events.{cleared_all}

-- A register is written.
abbrev pub written : Contents → ℕ → ℕ → Contents
written c address value = joined (control.written (controls_of c) address value) c.recorded

-- The sensors are to be read: no data is ready until the next second.
abbrev pub sensing_from_now : Contents → Contents
sensing_from_now c = with_sensing c (with_ready c.registers false) true

-- A whole command uses up the clear enable, whatever comes of it.
abbrev pub enable_used : Contents → Contents
enable_used c = with_registers c (take_enable_after c.registers)

-- The answer to a command, where `enabled` tells whether a clear was enabled before it.
abbrev pub command_answer : Contents → Bool → Command → Result (Unit {0}) Refusal
command_answer c enabled (Write address value) = write_answer c.registers address value
command_answer c enabled (Read address) = cond (nat_lt address 0x1800) (Ok tt) (Err (OutsideMap address))
command_answer c enabled ReadSensors = cond (in_mission c) (Err InMission) (Ok tt)
command_answer c enabled Clear = cond enabled (Ok tt) (Err ClearDisabled)

-- What a command leaves besides a reply.
abbrev pub command_after : Contents → Bool → Command → Contents
command_after c enabled (Write address value) = written c address value
command_after c enabled (Read address) = c
command_after c enabled ReadSensors = cond (in_mission c) c (sensing_from_now c)
command_after c enabled Clear = cond enabled (cleared_all c) c
