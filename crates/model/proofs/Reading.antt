-- The laws of reads and their replies.
use Rattle.std.proofs.Common.{◌≡◌, ℕ, zero, suc, ◌+◌, ◌-◌, ◌%◌, ◌<◌, ◌≤◌, Bool, true, false, cond, ltb, List, [], ◌∷◌, ◌++◌, length, get_or, take, drop, replicate, is_ok, Some, Ok, Err, Option, Result, sym, refl, ap, ◌∙◌, subst, inl, inr, add-one, arith}
use Rattle.std.proofs.lemmas.List.{take_at}
use Rattle.std.proofs.lemmas.Bool.{false≢true, both_ways, cases_eq, cond-true, cond-false, lt-ltb}
use Rattle.command.specs.Commands.{heard_of}
use Rattle.command.specs.declared.command.Command.TheVariants.{Read}
use Rattle.command.specs.declared.command.Heard.TheVariants.{Whole}
use Rattle.line.specs.Collecting.{over, too_short}
use Rattle.line.specs.Reply.{Bytes, reply}
use Rattle.memory.specs.Serving.{serves}
use Rattle.refusal.specs.declared.refusal.Refusal.{Refusal}
use Rattle.refusal.specs.declared.refusal.Refusal.TheVariants.{MemoryLength, ReplyWaits, BadTemperature, NothingWaits}
use Rattle.recorder.specs.Map.{page_from}
use Rattle.model.specs.Answers.{Answer, done, collected}
use Rattle.model.specs.declared.calls.Action.{Action}
use Rattle.model.specs.declared.calls.Action.TheVariants.{Byte, Second, Press}
use Rattle.model.specs.declared.calls.Call.{Call}
use Rattle.model.specs.declared.calls.Call.TheVariants.{Lent, Gap, Collect}
use Rattle.model.specs.declared.calls.Success.TheVariants.{Done, Pressed, Collected}
use Rattle.model.specs.Model.{Model, fresh, with_received}
use Rattle.model.specs.Stand.{stand}
use Rattle.model.specs.Rules.{heard, heard_answer, replies, enable_used}
use Rattle.model.specs.Runs.{heard_by, action_answer, after, answer, wire_noted, story}
use Rattle.model.specs.Laws.{making, model_at, page_at, ReadsAt, Waits, Replies}
use Rattle.model.proofs.Effects.{Did, kept, took, wiped, sent, gave, did}
use Rattle.model.proofs.Cuts.{length_story, story_at, ends_take_more}
use Rattle.model.proofs.Parts.{page_length}

-- ---- what a collection notes

abbrev is_collected : Answer → Bool
is_collected (Ok Done) = false
is_collected (Ok (Pressed started)) = false
is_collected (Ok (Collected n)) = true
is_collected (Err refusal) = false

never_collected : (a : Answer) (n : ℕ) → is_collected a ≡ false → a ≡ Ok (Collected n) → ⊥
never_collected a n none e = false≢true (sym none ∙ ap is_collected e)

-- The answers to an action, by their tests.
byte_collects_none : (waits : Bool) (r : Result (Unit {0}) Refusal) → is_collected (cond waits (Err ReplyWaits) (done r)) ≡ false
byte_collects_none true r = refl
byte_collects_none false (Ok u) = refl
byte_collects_none false (Err refusal) = refl

second_collects_none : (bad : Bool) (refusal : Refusal) → is_collected (cond bad (Err refusal) (Ok Done)) ≡ false
second_collects_none true refusal = refl
second_collects_none false refusal = refl

action_collects_none : (m : Model) (action : Action) → is_collected (action_answer m action) ≡ false
action_collects_none m (Byte byte) = byte_collects_none m.line.waits (heard_answer m byte (heard_of (m.received ++ byte ∷ [])))
action_collects_none m (Second codes) = second_collects_none (ltb 250 codes.temperature) (BadTemperature codes.temperature)
action_collects_none m Press = refl

lent_collects_none : (own : Bool) (a : Answer) → is_collected a ≡ false → is_collected (cond own a (Err MemoryLength)) ≡ false
lent_collects_none true a none = none
lent_collects_none false a none = refl

-- A collection of the wire bytes xs, by whether a reply waits and whether the buffer is short.
collect_gives : (waits short : Bool) (xs : List ℕ) (n : ℕ)
    → let r : Result ℕ Refusal = cond waits (cond short (too_short (length xs)) (Ok (length xs))) (Err NothingWaits) in
    collected r ≡ Ok (Collected n) → (waits ≡ true) × (take n (cond (is_ok r) (over xs (replicate 80 0)) (replicate 80 0)) ≡ xs)
collect_gives true false xs n e = let l : length xs ≡ n = cc in (refl, take_at xs (drop (length xs) (replicate 80 0)) n l)
collect_gives true true xs n e = elim (never_collected _ n refl e) [ ]
collect_gives false short xs n e = elim (never_collected _ n refl e) [ ]

module _ (wire : List ℕ → List ℕ) where
  -- Only a collection of a reply that waits answers so, and it notes the reply's wire bytes.
  collected_wire : (m : Model) (c : Call) (n : ℕ) → answer wire m c ≡ Ok (Collected n)
      → (m.line.waits ≡ true) × (take n (wire_noted wire m c) ≡ wire m.line.bytes)
  collected_wire m (Lent log journal action) n e =
      let none = lent_collects_none (serves log journal) (action_answer m action) (action_collects_none m action) in
      elim (never_collected _ n none e) [ ]
  collected_wire m Gap n e = elim (never_collected _ n refl e) [ ]
  collected_wire m (Collect room) n e =
      collect_gives m.line.waits (ltb room (length (wire m.line.bytes))) (wire m.line.bytes) n e

  -- A read that is accepted leaves its reply, and no command.
  read_replies : (m : Model) (byte address : ℕ) → m.line.waits ≡ false → heard_of (m.received ++ byte ∷ []) ≡ Whole (Read address)
      → address < 0x1800 → after wire m (Lent 2048 16 (Byte byte)) ≡ replies (enable_used (with_received m [])) address
  read_replies m byte address free whole inside =
      let ready = enable_used (with_received m []) in
      cond-false m.line.waits m (heard_by m byte) free ∙ ap (heard m byte) whole
      ∙ cond-true (ltb address 0x1800) (replies ready address) ready (lt-ltb address 0x1800 inside)

-- The far end accepts the wire bytes of every reply that a line can hold, and reads its data.
abbrev pub Carries : (List ℕ → List ℕ) → (List ℕ → Option (List ℕ)) → Type 0
Carries wire accepted = (xs : List ℕ) → Bytes xs → 0 < length xs → length xs ≤ 32 → accepted (wire xs) ≡ Some xs

-- The data bytes on the line are bytes before each call of a run.
abbrev pub HoldsBytes : (List ℕ → List ℕ) → (List ℕ → Option (List ℕ)) → List ℕ → List Call → Type 0
HoldsBytes wire accepted serial cs = (i : ℕ) → i < length cs → Bytes (model_at wire accepted serial cs i).line.bytes

module _ (wire : List ℕ → List ℕ) (accepted : List ℕ → Option (List ℕ)) (serial : List ℕ) (cs : List Call) where
  abbrev at : ℕ → Model
  at i = model_at wire accepted serial cs i

  abbrev page : ℕ → ℕ → List ℕ
  page i address = page_at wire accepted serial cs i address

  -- In every run an accepted read leaves its page waiting.
  pub waits : Waits wire accepted serial cs
  waits j address r =
      let ready = enable_used (with_received (at j) []) in
      let next : at (j + 1) ≡ replies ready address =
      ends_take_more wire j (fresh serial) cs r.within ∙ ap (after wire (at j)) r.arrives
      ∙ read_replies wire (at j) r.byte address r.free r.whole r.inside in
      subst (λ x. x.line ≡ reply (page_from (stand x).contents address) true) (sym next) refl

  -- What waits after the first i calls is the page of an earlier read, and it has waited since.
  record Waiting (i : ℕ) : Type 0 where
    j : ℕ
    address : ℕ
    earlier : j < i
    reads : ReadsAt wire accepted serial cs j address
    since : (k : ℕ) → j < k → k ≤ i → (at k).line.waits ≡ true
    line : (at i).line ≡ reply (page (j + 1) address) true

  -- What holds of each number up to i, and of i + 1, holds of each up to i + 1.
  up_to_more : (P : ℕ → Type 0) (j i : ℕ) → ((k : ℕ) → j < k → k ≤ i → P k) → P (i + 1) → (k : ℕ) → j < k → k ≤ i + 1 → P k
  up_to_more P j i before here k lt le =
      elim (cases_eq k (i + 1)) [ inl e ↦ subst P (sym e) here | inr ne ↦ before k lt (omega (arith, ne)) ]

  still_waiting : (i : ℕ) → (at (i + 1)).line ≡ (at i).line → ((at i).line.waits ≡ true → Waiting i)
      → (at (i + 1)).line.waits ≡ true → Waiting (i + 1)
  still_waiting i same before e =
      let w = before (sym (ap (λ l. l.waits) same) ∙ e) in
      record {
        j = w.j;
        address = w.address;
        earlier = omega (arith, w.earlier);
        reads = w.reads;
        since = up_to_more (λ k. (at k).line.waits ≡ true) w.j i w.since e;
        line = same ∙ w.line;
      }

  waiting_after : (i : ℕ) → i < length cs → Did (at i) (get_or cs i Gap) (at (i + 1)) → ((at i).line.waits ≡ true → Waiting i)
      → (at (i + 1)).line.waits ≡ true → Waiting (i + 1)
  waiting_after i lt (kept k) before e = still_waiting i k.line before e
  waiting_after i lt (took set brought sets made line) before e = still_waiting i line before e
  waiting_after i lt (wiped sets made line) before e = still_waiting i line before e
  waiting_after i lt (sent sets made s) before e = record {
    j = i;
    address = s.address;
    earlier = omega arith;
    reads = record { byte = s.byte; within = lt; arrives = s.arrives; free = s.free; whole = s.whole; inside = s.inside };
    since = λ k l le. let here : i + 1 ≡ k = omega arith in subst (λ n. (at n).line.waits ≡ true) here e;
    line = s.line;
  }
  waiting_after i lt (gave sets made line) before e = elim (false≢true (sym (ap (λ l. l.waits) line) ∙ e)) [ ]

  waiting : (i : ℕ) → i ≤ length cs → (at i).line.waits ≡ true → Waiting i
  waiting zero le e = elim (false≢true e) [ ]
  waiting (suc i) le e =
      let lt : i < length cs = omega arith in
      let d = subst (Did (at i) (get_or cs i Gap)) (sym (ends_take_more wire i (fresh serial) cs lt)) (did wire (at i) (get_or cs i Gap)) in
      subst (λ n. (at n).line.waits ≡ true → Waiting n) (add-one i) (waiting_after i lt d (waiting i (omega arith))) e

  -- In every run, on a line that carries replies and holds bytes, what is collected reads as the page of the latest read before it.
  pub replies_read : Carries wire accepted → HoldsBytes wire accepted serial cs
      → Replies wire accepted serial cs (story wire (fresh serial) cs)
  replies_read carries bytes i n lt e =
      let within : i < length cs = subst (λ k. i < k) (length_story wire (fresh serial) cs) lt in
      let noted = story_at wire i (fresh serial) cs making within in
      let got = collected_wire wire (at i) (get_or cs i Gap) n (sym (ap (λ o. o.answer) noted) ∙ e) in
      let w = waiting i (omega arith) got.0 in
      let read : (at i).line.bytes ≡ page (w.j + 1) w.address = ap (λ l. l.bytes) w.line in
      let rest : length (at i).line.bytes ≡ 32 - w.address % 32 =
      ap length read ∙ page_length (stand (at (w.j + 1))).contents w.address in
      let taken = carries (at i).line.bytes (bytes i within) (omega arith) (omega arith) in
      record {
        j = w.j;
        address = w.address;
        earlier = w.earlier;
        reads = w.reads;
        latest = λ k other l h r. both_ways (at k).line.waits r.free (w.since k l (omega arith));
        page = ap (λ o. accepted (take n o.wire)) noted ∙ ap accepted got.1 ∙ taken ∙ ap Some read;
      }
