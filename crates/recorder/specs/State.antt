-- What a recorder holds with its line, and what each call does to it, for every input and every memory that is lent.
use Rattle.std.specs.Prelude.{ℕ, Bool, cond, List, [], ◌∷◌, ◌++◌, Ok, Err, Result, nat_lt}
use Rattle.command.specs.Commands.{heard_of}
use Rattle.command.specs.declared.command.Command.{Command}
use Rattle.command.specs.declared.command.Command.TheVariants.{Write, Read, ReadSensors, Clear}
use Rattle.command.specs.declared.command.Heard.{Heard}
use Rattle.command.specs.declared.command.Heard.TheVariants.{Part, Whole, Unknown}
use Rattle.line.specs.Reply.{Reply, emptied}
use Rattle.line.specs.Sending.{send_after}
use Rattle.mission.specs.PerChannel.{Codes}
use Rattle.refusal.specs.declared.refusal.Refusal.{Refusal}
use Rattle.refusal.specs.declared.refusal.Refusal.TheVariants.{MemoryLength, ReplyWaits, UnknownCommand, BadTemperature}
use Rattle.recorder.specs.Contents.{Contents, made, whole_memories, with_received}
use Rattle.recorder.specs.Commands.{enable_used, command_answer, command_after}
use Rattle.recorder.specs.Control.{press_starts}
use Rattle.recorder.specs.Seconds.{passed, pressed}
use Rattle.recorder.specs.Map.{page_from}

pub record State : Type 0 where
  pub contents : Contents
  pub line : Reply

abbrev pub state : Contents → Reply → State
state c m = record { contents = c; line = m }

-- A recorder is made: its line is open and empty.
abbrev pub made_state : List ℕ → State
made_state serial = state (made serial) emptied

-- The line after a command: a read within the map leaves its page waiting.
abbrev pub line_after : Contents → Command → Reply → Reply
line_after c (Write address value) m = m
line_after c (Read address) m = cond (nat_lt address 0x1800) (send_after (page_from c address)) m
line_after c ReadSensors m = m
line_after c Clear m = m

-- The command so far is gone.
abbrev pub forgotten : State → State
forgotten s = state (with_received s.contents []) s.line

-- A whole command is obeyed. It uses up the clear enable.
abbrev pub obeyed : State → Command → State
obeyed s command =
    let c = enable_used s.contents in
    state (command_after c s.contents.registers.clear_enabled command) (line_after c command s.line)

abbrev pub obey_answer : State → Command → Result (Unit {0}) Refusal
obey_answer s command = command_answer (enable_used s.contents) s.contents.registers.clear_enabled command

-- What comes of a byte, by what it makes of the command so far.
abbrev pub heard_answer : State → ℕ → Heard → Result (Unit {0}) Refusal
heard_answer s byte Part = Ok tt
heard_answer s byte (Whole command) = obey_answer (forgotten s) command
heard_answer s byte Unknown = Err (UnknownCommand byte)

abbrev pub heard_after : State → ℕ → Heard → State
heard_after s byte Part = state (with_received s.contents (s.contents.received ++ byte ∷ [])) s.line
heard_after s byte (Whole command) = obeyed (forgotten s) command
heard_after s byte Unknown = state (enable_used (with_received s.contents [])) s.line

-- What a byte makes of the command so far.
abbrev pub heard_by : State → ℕ → Heard
heard_by s byte = heard_of (s.contents.received ++ byte ∷ [])

-- A byte arrives.
abbrev pub byte_answer : State → ℕ → Result (Unit {0}) Refusal
byte_answer s byte =
    cond (whole_memories s.contents) (cond s.line.waits (Err ReplyWaits) (heard_answer s byte (heard_by s byte))) (Err MemoryLength)

abbrev pub byte_after : State → ℕ → State
byte_after s byte =
    cond (whole_memories s.contents) (cond s.line.waits s (heard_after s byte (heard_by s byte))) s

-- The cable has a gap: a half-received command is dropped.
abbrev pub gap_after : State → State
gap_after s = forgotten s

-- A second passes with its codes.
abbrev pub second_answer : State → Codes → Result (Unit {0}) Refusal
second_answer s codes =
    cond (whole_memories s.contents) (cond (nat_lt 250 codes.temperature) (Err (BadTemperature codes.temperature)) (Ok tt)) (Err MemoryLength)

abbrev pub second_after : State → Codes → State
second_after s codes =
    cond (whole_memories s.contents) (cond (nat_lt 250 codes.temperature) s (state (passed s.contents codes) s.line)) s

-- The button is pressed: whether that started a mission.
abbrev pub press_answer : State → Result Bool Refusal
press_answer s = cond (whole_memories s.contents) (Ok (press_starts s.contents.registers)) (Err MemoryLength)

abbrev pub press_after : State → State
press_after s = cond (whole_memories s.contents) (state (pressed s.contents) s.line) s
