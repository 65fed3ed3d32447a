-- What is sent over a line, and what becomes of it on its way to the far end.
use Rattle.std.specs.Prelude.{◌≡◌, ℕ, true, false, cond, List, length, take, Ok, Err, Result, nat_le, nat_lt}
use Rattle.refusal.specs.declared.refusal.Refusal.{Refusal}
use Rattle.refusal.specs.declared.refusal.Refusal.TheVariants.{LineFull, NothingWaits}
use Rattle.line.specs.Reply.{Reply, reply, emptied}
use Rattle.line.specs.Collecting.{over, too_short}

-- more than 32 bytes are refused
abbrev pub send_answer : List ℕ → Result (Unit {0}) Refusal
send_answer xs = cond (nat_le (length xs) 32) (Ok tt) (Err LineFull)

-- the bytes wait, if there are any; of too many the first 32 stay on the line and do not wait
abbrev pub send_after : List ℕ → Reply
send_after xs = cond (nat_le (length xs) 32) (reply xs (nat_lt 0 (length xs))) (reply (take 32 xs) false)

-- how far bytes come on their way over a line
pub data Trip : Type 0 where
  -- there are more than 32
  too_long : Trip
  -- there are none, so that nothing waits
  nothing : Trip
  -- the collector's buffer is too short for their wire bytes
  uncollected : Trip
  -- the far end's buffer is too short
  unread : Trip
  -- the far end reads them
  arrived : Trip

-- data xs with these wire bytes, a collector's buffer and a far end's buffer of these lengths
abbrev pub trip_of : List ℕ → List ℕ → ℕ → ℕ → Trip
trip_of xs wire room space =
    cond (nat_le (length xs) 32)
    (cond (nat_lt 0 (length xs)) (cond (nat_lt room (length wire)) uncollected (cond (nat_lt space 32) unread arrived)) nothing)
    too_long

abbrev pub trip_answer : List ℕ → List ℕ → Trip → Result ℕ Refusal
trip_answer xs wire too_long = Err LineFull
trip_answer xs wire nothing = Err NothingWaits
trip_answer xs wire uncollected = too_short (length wire)
trip_answer xs wire unread = too_short 32
trip_answer xs wire arrived = Ok (length xs)

-- what the line means at the end
abbrev pub trip_line : List ℕ → Trip → Reply
trip_line xs too_long = reply (take 32 xs) false
trip_line xs nothing = emptied
trip_line xs uncollected = reply xs true
trip_line xs unread = emptied
trip_line xs arrived = emptied

-- the collector's buffer at the end
abbrev pub trip_buffer : List ℕ → List ℕ → Trip → List ℕ
trip_buffer wire buffer too_long = buffer
trip_buffer wire buffer nothing = buffer
trip_buffer wire buffer uncollected = buffer
trip_buffer wire buffer unread = over wire buffer
trip_buffer wire buffer arrived = over wire buffer

-- the far end's buffer at the end
abbrev pub trip_out : List ℕ → List ℕ → Trip → List ℕ
trip_out xs out too_long = out
trip_out xs out nothing = out
trip_out xs out uncollected = out
trip_out xs out unread = out
trip_out xs out arrived = over xs out

-- a trip of the data xs, with these wire bytes, that came so far: its answer r, what the line means after it,
-- and the two buffers, each before and after it
pub record Travelled (xs wire : List ℕ) (trip : Trip) (r : Result ℕ Refusal) (line : Reply) (buffer buffer' out out' : List ℕ) : Type 0 where
  pub answer : r ≡ trip_answer xs wire trip
  pub left : line ≡ trip_line xs trip
  pub collected : buffer' ≡ trip_buffer wire buffer trip
  pub read : out' ≡ trip_out xs out trip
