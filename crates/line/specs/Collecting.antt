-- What is answered and written where a reply is collected, and where the far end checks it.
use Rattle.std.specs.Prelude.{ℕ, cond, List, ◌++◌, length, drop, Some, None, Ok, Err, Option, Result, nat_lt}
use Rattle.refusal.specs.declared.refusal.Refusal.{Refusal}
use Rattle.refusal.specs.declared.refusal.Refusal.TheVariants.{NothingWaits, TooShort, BadWire}
use Rattle.refusal.specs.declared.refusal.Shortage.TheVariants.{Line}
use Rattle.line.specs.Reply.{Reply}

-- the buffer with its front written over, and its rest as it was
abbrev pub over : List ℕ → List ℕ → List ℕ
over front buffer = front ++ drop (length front) buffer

-- a buffer of the line that is shorter than n
abbrev pub too_short : ℕ → Result ℕ Refusal
too_short n = Err (TooShort Line n)

-- the wire bytes of the reply m are collected into a buffer of this length: how many there are, or why not
abbrev pub collect_answer : List ℕ → Reply → ℕ → Result ℕ Refusal
collect_answer wire m room =
    cond m.waits (cond (nat_lt room (length wire)) (too_short (length wire)) (Ok (length wire))) (Err NothingWaits)

-- how many data bytes were accepted, if they were
abbrev pub accepted_answer : Option (List ℕ) → Result ℕ Refusal
accepted_answer None = Err BadWire
accepted_answer (Some xs) = Ok (length xs)

-- the far end wants a buffer of 32 bytes, before it looks at the wire bytes
abbrev pub check_answer : Option (List ℕ) → ℕ → Result ℕ Refusal
check_answer accepted room = cond (nat_lt room 32) (too_short 32) (accepted_answer accepted)

-- data that is accepted is written to the buffer's front
abbrev pub check_buffer : Option (List ℕ) → List ℕ → List ℕ
check_buffer None buffer = buffer
check_buffer (Some xs) buffer = over xs buffer
