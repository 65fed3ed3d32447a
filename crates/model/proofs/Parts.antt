-- The parts of what stands for a model, each with one more of what it derives from.
use Rattle.std.proofs.Common.{◌≡◌, ℕ, ◌+◌, ◌%◌, ◌<◌, ◌≤◌, true, cond, List, [], ◌∷◌, ◌++◌, length, replicate, refl, arith, lit<}
use native.Mathlib.Nat.{sub-zero}
use Rattle.std.proofs.lemmas.List.FromFn.{length-map-range_with_len}
use Rattle.std.proofs.lemmas.Bool.{cond-true, le-ltb, lt-ltb, le-leb, eq-eqb, and_from}
use Rattle.std.proofs.lemmas.Bool.Decides.{nat_tests}
use Rattle.counter.specs.Counting.{counted}
use Rattle.line.specs.Reply.{reply}
use Rattle.line.specs.Sending.{send_after}
use Rattle.memory.specs.Events.{journal_of, blank_entry}
use Rattle.memory.specs.declared.event.JournalEntry.{JournalEntry}
use Rattle.memory.proofs.Events.{event_noted}
use Rattle.memory.specs.Events.{JournalStands}
use Rattle.mission.specs.Schedule.{due, taken, ticked}
use Rattle.mission.proofs.Countdowns.{rolled}
use Rattle.ring.specs.Steps.{stored, advanced}
use Rattle.ring.proofs.Rings.{ring_of_stands, blank_at_first}
use Rattle.record.specs.Histories.{record_of}
use Rattle.record.specs.Sets.{SampleSet, Rules}
use Rattle.recorder.specs.Contents.{Contents, whole_memories}
use Rattle.recorder.specs.Control.{running_by}
use Rattle.recorder.specs.Map.{map_at, page_from, page_rest}
use Rattle.registers.specs.Contents.{Contents as Registers}
use Rattle.model.specs.Model.{Model, Plan, plan_by}
use Rattle.model.specs.Stand.{countdown_at, running_at, contents_of}

-- ---- counters

pub counted_more : (n : ℕ) → counted (counted n + 1) ≡ counted (n + 1)
counted_more n = grind (arith, nat_tests)

-- ---- the journal

journal_stands : (events : List JournalEntry) → JournalStands events (journal_of events) (length events % 16)
journal_stands events = record { held = refl; place = refl }

module _ (events : List JournalEntry) (event : JournalEntry) where
  journal_noted : JournalStands (events ++ event ∷ []) (stored (journal_of events) (length events % 16) event) (advanced (length (journal_of events)) (length events % 16))
  journal_noted = event_noted events (journal_of events) _ (length events % 16) _ event refl refl (journal_stands events)

  pub journal_more : stored (journal_of events) (length events % 16) event ≡ journal_of (events ++ event ∷ [])
  journal_more = journal_noted.held

  pub place_more : advanced (length (journal_of events)) (length events % 16) ≡ length (events ++ event ∷ []) % 16
  place_more = journal_noted.place

pub journal_none : journal_of [] ≡ replicate 16 blank_entry
journal_none = blank_at_first JournalEntry 16 blank_entry

-- ---- the lengths of the memories

pub journal_length : (events : List JournalEntry) → length (journal_of events) ≡ 16
journal_length events = (ring_of_stands 16 blank_entry (lit< tt) events).size

pub log_length : (p : Rules) (sets : List SampleSet) → length (record_of p sets).memory ≡ 2048
log_length p sets = (ring_of_stands 2048 0 (lit< tt) _).size

pub memories_whole : (m : Model) → whole_memories (contents_of m) ≡ true
memories_whole m =
    and_from _ _ (eq-eqb _ 2048 (log_length m.plan.rules m.sets)) (eq-eqb _ 16 (journal_length m.events))

-- What comes of a call that is lent memories that can serve.
pub served : {A : Type 0} (m : Model) (x y : A) → cond (whole_memories (contents_of m)) x y ≡ x
served m x y = cond-true (whole_memories (contents_of m)) x y (memories_whole m)

-- ---- the schedule

module _ (p : Plan) (k : ℕ) (rated : 0 < p.rate) where
  countdown_rolled : (taken (countdown_at p k) ≡ due p.delay p.rate (k + 1)) × (ticked (countdown_at p k) ≡ countdown_at p (k + 1))
  countdown_rolled = rolled (countdown_at p k) (ticked (countdown_at p k)) (taken (countdown_at p k)) rated refl refl p.delay p.rate k refl

  pub countdown_takes : taken (countdown_at p k) ≡ due p.delay p.rate (k + 1)
  countdown_takes = countdown_rolled.0

  pub countdown_more : ticked (countdown_at p k) ≡ countdown_at p (k + 1)
  countdown_more = countdown_rolled.1

-- A mission that has just started has passed no rollover.
pub running_none : (r : Registers) → running_by r ≡ running_at (plan_by r) 0
running_none r = rw (le-ltb r.delay 0 (omega arith), sub-zero r.delay)

-- ---- replies

pub page_length : (c : Contents) (address : ℕ) → length (page_from c address) ≡ page_rest address
page_length c address = length-map-range_with_len (map_at c) address (page_rest address)

-- Bytes that a line can take wait on it.
some_sent : (xs : List ℕ) → 0 < length xs → length xs ≤ 32 → send_after xs ≡ reply xs true
some_sent xs some few = rw (le-leb (length xs) 32 few, lt-ltb 0 (length xs) some)

pub page_sent : (c : Contents) (address : ℕ) → send_after (page_from c address) ≡ reply (page_from c address) true
page_sent c address =
    some_sent (page_from c address)
    (omega (arith, page_length c address))
    (omega (arith, page_length c address))
