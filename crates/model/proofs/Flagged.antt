-- What a call does to a limit flag: it raises the flag, clears it, or leaves it.
use Rattle.std.proofs.Common.{◌≡◌, ℕ, ◌+◌, Bool, true, false, cond, ◌&&◌, ◌||◌, ltb, List, [], ◌∷◌, ◌++◌, is_ok, sym, refl, ap, ◌∙◌, subst, inl, inr, arith}
use Rattle.std.proofs.lemmas.Bool.{false≢true, and_from, and_parts, both_ways, cases_Bool, cases_eq, cond_both, cond-false, cond-true, eq-eqb, eqb-true, not_from_false, not-true, or_right}
use Rattle.std.proofs.Math.Bool.{or-false}
use Rattle.clock.specs.Ticking.{rolls_over}
use Rattle.command.specs.Commands.{heard_of}
use Rattle.command.specs.declared.command.Command.TheVariants.{Write, Read, ReadSensors, Clear}
use Rattle.command.specs.declared.command.Heard.{Heard}
use Rattle.command.specs.declared.command.Heard.TheVariants.{Part, Whole, Unknown}
use Rattle.line.specs.Reply.{emptied}
use Rattle.memory.specs.Serving.{serves}
use Rattle.bits.specs.Bits.{bit}
use Rattle.mission.specs.Schedule.{due}
use Rattle.mission.specs.PerChannel.{Codes, Flags as LimitFlags}
use Rattle.registers.specs.Writing.{write_answer, write_after, stops as stopping}
use Rattle.registers.specs.Contents.{Contents as Registers}
use Rattle.registers.specs.Flags.{status_1_kept, status_2_kept}
use Rattle.registers.specs.Steps.{count_down_after}
use Rattle.recorder.specs.Control.{starts as starting, press_starts}
use Rattle.model.specs.declared.calls.Action.TheVariants.{Byte, Second, Press}
use Rattle.model.specs.declared.calls.Call.{Call}
use Rattle.model.specs.declared.calls.Call.TheVariants.{Lent, Gap, Collect}
use Rattle.model.specs.Model.{Model, Plan, with_registers, with_received, with_line, rolls}
use Rattle.model.specs.Rules.{started, stopped, cleared, written, replies, enable_used, heard}
use Rattle.model.specs.Rules.{sampled, rolled, passed, pressed}
use Rattle.model.specs.Runs.{after, collect_result, heard_by}
use Rattle.model.specs.Flagging.{Channel, Side, flag_of, status_of, bit_of, Raises, Clears}
use Rattle.model.proofs.Effects.{own_lengths}
use Rattle.model.proofs.Flags.{strikes, set_raises, wipes, by_wipe, flag_after, status_1_clears, status_2_clears, others_clear_none}
use Rattle.model.proofs.Ways.{either, same_chosen}
use Rattle.model.proofs.Writes.{write_keeps_flags}

-- The flags of a model, and how many sets were taken.
abbrev tells : Model → LimitFlags × ℕ
tells m = (m.registers.flags, m.made)

-- ---- writes

-- Besides what it stores, a write may stop a mission and start one, which leaves the flags.
module _ (m : Model) (r : Registers) (address : ℕ) (stop start : Bool) where
  abbrev left : Model
  left = cond stop (stopped (with_registers m r) address) (with_registers m r)

  left_tells : tells left ≡ (r.flags, m.made)
  left_tells = same_chosen tells stop _ _ _ (same_chosen tells m.in_mission _ _ _ refl refl) refl

  accepted_tells : tells (cond start (started left address) left) ≡ (r.flags, m.made)
  accepted_tells = same_chosen tells start _ _ _ left_tells left_tells

module _ (m : Model) (value : ℕ) where
  written_1 : tells (written m 0x14 value) ≡ (status_1_kept m.registers.flags value, m.made)
  written_1 = accepted_tells m (write_after m.registers 0x14 value) 0x14 (stopping 0x14 value) false

  written_2 : tells (written m 0x2A value) ≡ (status_2_kept m.registers.flags value, m.made)
  written_2 = accepted_tells m (write_after m.registers 0x2A value) 0x2A false false

  written_other : (address : ℕ) → (address ≡ 0x14 → ⊥) → (address ≡ 0x2A → ⊥) → tells (written m address value) ≡ tells m
  written_other address not_1 not_2 =
      let r = m.registers in
      same_chosen tells (is_ok (write_answer r address value)) _ _ _
      (accepted_tells m (write_after r address value) address (stopping address value) (starting r address value)
      ∙ ap (λ f. (f, m.made)) (write_keeps_flags r address value not_1 not_2))
      refl

-- ---- which calls are which

abbrev is_write : Heard → Bool
is_write (Whole (Write address value)) = true
is_write (Whole (Read address)) = false
is_write (Whole ReadSensors) = false
is_write (Whole Clear) = false
is_write Part = false
is_write Unknown = false

abbrev is_byte : Call → Bool
is_byte (Lent log journal (Byte byte)) = true
is_byte Gap = false
is_byte (Lent log journal (Second codes)) = false
is_byte (Lent log journal Press) = false
is_byte (Collect room) = false

-- A byte that is lent memories of 2,048 bytes and 16 entries is lent memories that can serve.
can_serve : (log journal byte other : ℕ) → Lent log journal (Byte byte) ≡ Lent 2048 16 (Byte other) → serves log journal ≡ true
can_serve log journal byte other e =
    let l : log ≡ 2048 = cc in
    let j : journal ≡ 16 = cc in
    rw (l, j)

-- ---- one flag

module _ (channel : Channel) (side : Side) where
  abbrev pub flag : Model → Bool
  flag m = flag_of channel side m.registers.flags

  -- What the call c did to the flag of the model m, which is x after it.
  pub data Flagged (m : Model) (c : Call) (x : Model) : Type 0 where
    raised : Raises m c x channel side → flag x ≡ true → Flagged m c x
    lowered : Clears m c channel side → flag x ≡ false → Flagged m c x
    kept : (Raises m c x channel side → ⊥) → (Clears m c channel side → ⊥) → flag x ≡ flag m → Flagged m c x

  never_cleared : (m : Model) (c : Call) → is_byte c ≡ false → Clears m c channel side → ⊥
  never_cleared m c none r = false≢true (sym none ∙ ap is_byte r.arrives)

  -- No call both raises the flag and clears it.
  pub not_both : (m : Model) (c : Call) (x : Model) → Raises m c x channel side → Clears m c channel side → ⊥
  not_both m c x r = never_cleared m c (ap is_byte r.arrives)

  never_raised : (m : Model) (c : Call) (x : Model) → x.made ≡ m.made → Raises m c x channel side → ⊥
  never_raised m c x same r = omega (arith, r.takes)

  -- A call that takes no set, and does not clear the flag.
  leaves : (m : Model) (c : Call) (x : Model) → (Clears m c channel side → ⊥) → tells x ≡ tells m → Flagged m c x
  leaves m c x none e = kept (never_raised m c x (ap (λ t. t.1) e)) none (ap (λ t. flag_of channel side t.0) e)

  -- ---- bytes

  module _ (m : Model) (byte : ℕ) where
    abbrev call : Call
    call = Lent 2048 16 (Byte byte)

    -- The model with the command gone and the clear enable used up.
    abbrev ready : Model
    ready = enable_used (with_received m [])

    abbrev Says : Heard → Type 0
    Says h = heard_of (m.received ++ byte ∷ []) ≡ h

    clear_says : (h : Heard) → Says h → (r : Clears m call channel side) → h ≡ Whole (Write (status_of channel) r.value)
    clear_says h says r = let e = r.arrives in let w = r.whole in cc

    -- A byte that completes no write.
    no_write : (h : Heard) (x : Model) → Says h → is_write h ≡ false → tells x ≡ tells m → Flagged m call x
    no_write h x says none e = leaves m call x (λ r. false≢true (sym none ∙ ap is_write (clear_says h says r))) e

    -- A byte that completes a write, by what the write makes of the flag.
    module _ (address value : ℕ) (free : m.line.waits ≡ false) (says : Says (Whole (Write address value))) where
      clear_wipes : Clears m call channel side → wipes channel side address value ≡ true
      clear_wipes r =
          let same = clear_says (Whole (Write address value)) says r in
          let a : address ≡ status_of channel = cc in
          let v : value ≡ r.value = cc in
          and_from _ _ (eq-eqb address (status_of channel) a) (not_from_false _ (ap (bit (bit_of channel side)) v ∙ r.clear))

      write_flagged : (f : LimitFlags) (x : Model) → tells x ≡ (f, m.made)
          → flag_of channel side f ≡ flag_after m.registers.flags value channel side address → Flagged m call x
      write_flagged f x e told =
          let gives : flag x ≡ cond (wipes channel side address value) false (flag m) =
          ap (λ t. flag_of channel side t.0) e ∙ told ∙ by_wipe _ _ (flag m) in
          elim (cases_Bool (wipes channel side address value)) [
            | inl on ↦
                let both = and_parts _ _ on in
                let there : address ≡ status_of channel = eqb-true address (status_of channel) both.0 in
                lowered (record {
                  byte = byte;
                  value = value;
                  arrives = refl;
                  free = free;
                  whole = says ∙ ap (λ a. Whole (Write a value)) there;
                  clear = not-true _ both.1;
                })
                (gives ∙ cond-true _ _ _ on)
            | inr off ↦
                kept (never_raised m call x (ap (λ t. t.1) e))
                (λ r. both_ways (wipes channel side address value) off (clear_wipes r)) (gives ∙ cond-false _ _ _ off)
          ]

    written_flagged : (address value : ℕ) → m.line.waits ≡ false → Says (Whole (Write address value))
        → Flagged m call (written ready address value)
    written_flagged address value free says =
        let flags = m.registers.flags in
        elim (cases_eq address 0x14) [
          | inl at ↦
              subst (λ a. Says (Whole (Write a value)) → Flagged m call (written ready a value)) (sym at)
              (λ w. write_flagged 0x14 value free w _ _ (written_1 ready value) (status_1_clears flags value channel side)) says
          | inr not_1 ↦ elim (cases_eq address 0x2A) [
            | inl at ↦
                subst (λ a. Says (Whole (Write a value)) → Flagged m call (written ready a value)) (sym at)
                (λ w. write_flagged 0x2A value free w _ _ (written_2 ready value) (status_2_clears flags value channel side)) says
            | inr not_2 ↦
                write_flagged address value free says _ _ (written_other ready value address not_1 not_2)
                (others_clear_none flags value address not_1 not_2 channel side)
          ]
        ]

    heard_flagged : (h : Heard) → m.line.waits ≡ false → Says h → Flagged m call (heard m byte h)
    heard_flagged (Whole (Write address value)) free says = written_flagged address value free says
    heard_flagged (Whole (Read address)) free says =
        no_write _ _ says refl (same_chosen tells (ltb address 0x1800) (replies ready address) ready _ refl refl)
    heard_flagged (Whole ReadSensors) free says = no_write _ _ says refl (same_chosen tells m.in_mission _ _ _ refl refl)
    heard_flagged (Whole Clear) free says =
        no_write _ _ says refl (same_chosen tells m.registers.clear_enabled (cleared ready) ready _ refl refl)
    heard_flagged Part free says = no_write Part _ says refl refl
    heard_flagged Unknown free says = no_write Unknown _ says refl refl

    byte_flagged : Flagged m call (cond m.line.waits m (heard_by m byte))
    byte_flagged =
        cond_both m.line.waits m (heard_by m byte) (Flagged m call)
        (λ waits. leaves m call m (λ r. both_ways m.line.waits r.free waits) refl)
        (λ free. heard_flagged (heard_of (m.received ++ byte ∷ [])) free refl)

  -- ---- seconds

  module _ (m : Model) (codes : Codes) where
    abbrev tick : Call
    tick = Lent 2048 16 (Second codes)

    -- A second that takes no set.
    no_set : (x : Model) → tells x ≡ tells m → Flagged m tick x
    no_set x e = leaves m tick x (never_cleared m tick refl) e

    sampled_flagged : (x : Model) → tells x ≡ tells m → x.plan ≡ m.plan → Flagged m tick (sampled x codes)
    sampled_flagged x e p =
        let b = strikes channel side m.plan.rules codes in
        let gives : flag (sampled x codes) ≡ (flag m || b) =
        set_raises x.registers.flags x.plan.rules codes channel side
        ∙ ap (λ t. flag_of channel side t.0 || strikes channel side x.plan.rules codes) e
        ∙ ap (λ (q : Plan). flag m || strikes channel side q.rules codes) p in
        elim (cases_Bool b) [
          | inl on ↦
              let both = and_parts _ _ on in
              raised (record { codes = codes; arrives = refl; takes = ap (λ t. t.1 + 1) e; on = both.0; past = both.1 })
              (gives ∙ or_right (flag m) b on)
          | inr off ↦
              kept (λ r.
              let same = r.arrives in
              let v : codes ≡ r.codes = cc in
              both_ways b off (ap (strikes channel side m.plan.rules) v ∙ and_from _ _ r.on r.past))
              (never_cleared m tick refl) (rw (off, or-false) at gives)
        ]

    rolled_flagged : (rolls_now : Bool) (x : Model) → tells x ≡ tells m → x.plan ≡ m.plan
        → Flagged m tick (cond rolls_now (rolled x codes) x)
    rolled_flagged rolls_now x e p =
        let on = rolls x (count_down_after x.registers) in
        either (Flagged m tick) rolls_now (rolled x codes) x
        (either (Flagged m tick) (due x.plan.delay x.plan.rate on.k) (sampled on codes) on (sampled_flagged on e p) (no_set on e))
        (no_set x e)

    second_flagged : Flagged m tick (cond (ltb 250 codes.temperature) m (passed m codes))
    second_flagged =
        let rolls_now = rolls_over m.registers.moment && m.in_mission in
        either (Flagged m tick) (ltb 250 codes.temperature) m (passed m codes) (no_set m refl)
        (either (λ x. Flagged m tick (cond rolls_now (rolled x codes) x)) m.sensing _ _
        (rolled_flagged rolls_now _ refl refl) (rolled_flagged rolls_now _ refl refl))

  -- ---- every call

  pub flagged : (wire : List ℕ → List ℕ) (m : Model) (c : Call) → Flagged m c (after wire m c)
  flagged wire m (Lent log journal (Byte byte)) =
      let c = Lent log journal (Byte byte) in
      let x = cond m.line.waits m (heard_by m byte) in
      cond_both (serves log journal) x m (Flagged m c)
      (λ own. subst (λ k. Flagged m k x) (own_lengths log journal (Byte byte) own) (byte_flagged m byte))
      (λ other. leaves m c m (λ r. both_ways (serves log journal) other (can_serve log journal byte r.byte r.arrives)) refl)
  flagged wire m Gap = leaves m Gap _ (never_cleared m Gap refl) refl
  flagged wire m (Lent log journal (Second codes)) =
      let c = Lent log journal (Second codes) in
      let x = cond (ltb 250 codes.temperature) m (passed m codes) in
      cond_both (serves log journal) x m (Flagged m c)
      (λ own. subst (λ k. Flagged m k x) (own_lengths log journal (Second codes) own) (second_flagged m codes))
      (λ _. leaves m c m (never_cleared m c refl) refl)
  flagged wire m (Lent log journal Press) =
      let c = Lent log journal Press in
      let same : tells (pressed m) ≡ tells m = same_chosen tells (press_starts m.registers) (started m 0) m _ refl refl in
      leaves m c _ (never_cleared m c refl) (same_chosen tells (serves log journal) (pressed m) m _ same refl)
  flagged wire m (Collect room) =
      let c = Collect room in
      leaves m c _ (never_cleared m c refl) (same_chosen tells (is_ok (collect_result wire m room)) (with_line m emptied) m _ refl refl)
