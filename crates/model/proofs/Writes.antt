-- Writes of registers, which may stop a mission and start one.
use Rattle.std.proofs.Common.{◌≡◌, ℕ, ◌-◌, ◌<◌, Bool, true, false, cond, not, ◌&&◌, eqb, ltb, List, [], set, is_ok, Err, sym, refl, ap, ◌∙◌, subst}
use Rattle.std.proofs.lemmas.Bool.{false≢true, and_from, and_parts, eqb-true, ltb-true, lt-ltb, cond-true, cond_both}
use Rattle.clock.specs.declared.calendar.Moment.{Moment}
use Rattle.bits.specs.Bits.{bit}
use Rattle.mission.specs.Channels.{any_on}
use Rattle.mission.specs.Setting.{can_run}
use Rattle.mission.specs.PerChannel.{Limits}
use Rattle.refusal.specs.declared.refusal.Refusal.TheVariants.{NoChannel, NotCleared}
use Rattle.registers.specs.Bytes.{delay_high, delay_low, switches_byte, without_clear}
use Rattle.registers.specs.Clocking.{clock_with}
use Rattle.registers.specs.Contents.{Contents as Registers, with_control, with_delay, with_flags, with_limits, with_moment, with_rate, with_switches, with_user}
use Rattle.registers.specs.Flags.{status_1_kept, status_2_kept}
use Rattle.registers.specs.Limiting.{limits_with}
use Rattle.registers.specs.Reading.{within}
use Rattle.registers.specs.Steps.{by_button, channels_on}
use Rattle.registers.specs.Writing.{taken, write_answer, write_after, stored, stops as stopping}
use Rattle.recorder.specs.Commands.{written}
use Rattle.recorder.specs.Contents.{joined, controls_of}
use Rattle.recorder.specs.Control.{Controls, starts as starting}
use Rattle.recorder.specs.Control as control
use Rattle.recorder.specs.Events.{started, started_if_can}
use Rattle.recorder.specs.State.{State, state}
use Rattle.model.specs.Model.{Model, with_registers as model_with}
use Rattle.model.specs.Rules.{started as model_started, stopped as model_stopped, written as model_written}
use Rattle.model.proofs.Invariants.{Keeps, Sound}
use Rattle.model.specs.Stand.{contents_of, stand}
use Rattle.model.proofs.Changes.{started_stands, stopped_stands}
use Rattle.model.proofs.Sounds.{started_sound, stopped_sound}
use Rattle.model.proofs.Ways.{chosen, either, same_chosen}

-- ---- the registers

-- What holds of the registers, and of each change of one of them, holds of them after a write.
module _ (r : Registers) (address value : ℕ) (P : Registers → Type 0) (none : P r)
    (moment : (x : Moment) → P (with_moment r x)) (limits : (x : Limits) → P (with_limits r x)) (rate : (x : ℕ) → P (with_rate r x))
    (control : (x : ℕ) (enabled : Bool) → P (with_control r x enabled)) (delay : (x : ℕ) → P (with_delay r x))
    (switches : (x : ℕ) → P (with_switches r x)) (user : (x : List ℕ) → P (with_user r x))
    (status_1 : address ≡ 0x14 → P (with_flags r (status_1_kept r.flags value)))
    (status_2 : address ≡ 0x2A → P (with_flags r (status_2_kept r.flags value))) where
  stored_holds : P (stored r address value)
  stored_holds =
      either P (within 0x00 0x06 address) _ _ (moment (clock_with r.moment address value))
      (either P (within 0x0B 0x0C address) _ _ (limits (limits_with r.limits address value))
      (either P (eqb address 0x0D) _ _ (rate value)
      (either P (eqb address 0x0E) _ _ (control (without_clear value) (bit 6 value))
      (either P (eqb address 0x12) _ _ (delay (delay_low r.delay value))
      (either P (eqb address 0x13) _ _ (delay (delay_high r.delay value))
      (cond_both (eqb address 0x14) _ _ P (λ e. status_1 (eqb-true address 0x14 e)) (λ _.
      either P (within 0x23 0x28 address) _ _ (limits (limits_with r.limits address value))
      (either P (eqb address 0x29) _ _ (switches (switches_byte value))
      (cond_both (eqb address 0x2A) _ _ P (λ e. status_2 (eqb-true address 0x2A e)) (λ _.
      either P (within 0x40 0x5F address) _ _ (user (set r.user (address - 0x40) value)) none))))))))))

  write_holds : P (write_after r address value)
  write_holds = either P (is_ok (write_answer r address value)) (stored r address value) r stored_holds none

-- A write changes nothing of whether the record reads as cleared.
pub write_keeps : (r : Registers) (address value : ℕ) → (write_after r address value).cleared ≡ r.cleared
write_keeps r address value =
    write_holds r address value (λ x. x.cleared ≡ r.cleared) refl
    (λ _. refl) (λ _. refl) (λ _. refl) (λ _ _. refl) (λ _. refl) (λ _. refl) (λ _. refl) (λ _. refl) (λ _. refl)

-- A write elsewhere than to the status registers changes no flag.
pub write_keeps_flags : (r : Registers) (address value : ℕ) → (address ≡ 0x14 → ⊥) → (address ≡ 0x2A → ⊥)
    → (write_after r address value).flags ≡ r.flags
write_keeps_flags r address value not_1 not_2 =
    write_holds r address value (λ x. x.flags ≡ r.flags) refl
    (λ _. refl) (λ _. refl) (λ _. refl) (λ _ _. refl) (λ _. refl) (λ _. refl) (λ _. refl) (λ e. absurd (not_1 e)) (λ e. absurd (not_2 e))

-- What a write that starts a mission is bound to: the record read as cleared, and the registers then hold a rate and a channel.
pub record Starts (before after : Registers) : Type 0 where
  pub was_cleared : before.cleared ≡ true
  pub some_rate : 0 < after.rate
  pub some_channel : any_on (channels_on after) ≡ true

rate_taken : (cleared positive on : Bool) → positive ≡ true
    → is_ok (cond cleared (cond (positive && not on) (Err NoChannel) taken) (Err NotCleared)) ≡ true → (cleared ≡ true) × (on ≡ true)
rate_taken true true true p ok = (refl, refl)
rate_taken true true false p ok = absurd (false≢true ok)
rate_taken true false on p ok = absurd (false≢true p)
rate_taken false positive on p ok = absurd (false≢true ok)

rate_starts : (r : Registers) (value : ℕ) → 0 < value → is_ok (write_answer r 0x0D value) ≡ true → Starts r (write_after r 0x0D value)
rate_starts r value h ok =
    let was = rate_taken r.cleared (ltb 0 value) (any_on (channels_on r)) (lt-ltb 0 value h) ok in
    let e : write_after r 0x0D value ≡ with_rate r value = cond-true _ _ _ ok in
    subst (Starts r) (sym e) (record { was_cleared = was.0; some_rate = h; some_channel = was.1 })

pub write_starts : (r : Registers) (address value : ℕ) → starting r address value ≡ true → is_ok (write_answer r address value) ≡ true
    → Starts r (write_after r address value)
write_starts r address value e =
    let rate = (and_parts (eqb address 0x0D && ltb 0 value) (not (by_button r)) e).0 in
    let parts = and_parts (eqb address 0x0D) (ltb 0 value) rate in
    let at : address ≡ 0x0D = eqb-true address 0x0D parts.0 in
    subst (λ (a : ℕ). is_ok (write_answer r a value) ≡ true → Starts r (write_after r a value)) (sym at)
    (rate_starts r value (ltb-true 0 value parts.1))

-- ---- the recorder

-- A write that leaves the registers r, and may stop a mission.
module _ (m : Model) (r : Registers) (address : ℕ) (stop : Bool) where
  abbrev left : Model
  left = cond stop (model_stopped (model_with m r) address) (model_with m r)

  -- The controls that the write leaves.
  abbrev controls_left : Controls
  controls_left =
      let stored = control.with_registers (controls_of (contents_of m)) r in
      cond stop (control.stopped stored address) stored

  left_stands : state (joined controls_left (contents_of m).recorded) m.line ≡ stand left
  left_stands = chosen (λ c. state (joined c (contents_of m).recorded) m.line) stop _ _ _ _ (λ _. stopped_stands (model_with m r) address) (λ _. refl)

  left_same : {A : Type 0} (f : Model → A) (x : A) → f (model_with m r) ≡ x → f (model_stopped (model_with m r) address) ≡ x → f left ≡ x
  left_same f x p q = same_chosen f stop _ _ x q p

  left_sets : left.sets ≡ m.sets
  left_sets = left_same (λ (n : Model). n.sets) m.sets refl (same_chosen (λ (n : Model). n.sets) m.in_mission _ _ m.sets refl refl)

  left_registers : left.registers ≡ r
  left_registers = left_same (λ (n : Model). n.registers) r refl (same_chosen (λ (n : Model). n.registers) m.in_mission _ _ r refl refl)

  left_sound : r.cleared ≡ m.registers.cleared → Sound m → Sound left
  left_sound e s =
      let kept : Sound (model_with m r) = subst (λ (c : Bool). Keeps m.in_mission c m.plan m.sets) (sym e) s in
      cond_both stop _ _ Sound (λ _. stopped_sound (model_with m r) address kept) (λ _. kept)

  -- It may then start one.
  pub accepted_sound : (start : Bool) → r.cleared ≡ m.registers.cleared → (start ≡ true → Starts m.registers r) → Sound m
      → Sound (cond start (model_started left address) left)
  accepted_sound start e starts s =
      cond_both start _ _ Sound
      (λ (t : start ≡ true).
      let with_r : Starts m.registers left.registers = subst (Starts m.registers) (sym left_registers) (starts t) in
      started_sound left address with_r.some_rate with_r.some_channel)
      (λ _. left_sound e s)

  -- A mission that starts can run.
  can_start : Starts m.registers left.registers → state (started_if_can (contents_of left) address) left.line ≡ state (started (contents_of left) address) left.line
  can_start with_r =
      let runs = and_from (ltb 0 left.registers.rate) (any_on (channels_on left.registers)) (lt-ltb 0 left.registers.rate with_r.some_rate) with_r.some_channel in
      ap (λ (c : Controls). state (joined c (contents_of left).recorded) left.line) (cond-true (can_run left.registers.rate (channels_on left.registers)) _ _ runs)

  pub accepted_stands : (start : Bool) → (start ≡ true → Starts m.registers r) → (start ≡ true → m.sets ≡ [])
      → state (joined (cond start (control.started_if_can controls_left address) controls_left) (contents_of m).recorded) m.line
      ≡ stand (cond start (model_started left address) left)
  accepted_stands start starts none =
      chosen (λ c. state (joined c (contents_of m).recorded) m.line) start _ _ _ _
      (λ t. ap (λ (s : State). state (started_if_can s.contents address) s.line) left_stands
      ∙ can_start (subst (Starts m.registers) (sym left_registers) (starts t))
      ∙ started_stands left address (left_sets ∙ none t))
      (λ _. left_stands)

module _ (m : Model) (address value : ℕ) (s : Sound m) where
  pub written_stands : state (written (contents_of m) address value) m.line ≡ stand (model_written m address value)
  written_stands =
      chosen (λ c. state (joined c (contents_of m).recorded) m.line) (is_ok (write_answer m.registers address value)) _ _ _ _
      (λ ok. accepted_stands m (write_after m.registers address value) address (stopping address value) (starting m.registers address value)
      (λ t. write_starts m.registers address value t ok)
      (λ t. s.no_sets (write_starts m.registers address value t ok).was_cleared))
      (λ _. refl)

  pub written_sound : Sound (model_written m address value)
  written_sound =
      cond_both (is_ok (write_answer m.registers address value)) _ _ Sound
      (λ ok. accepted_sound m (write_after m.registers address value) address (stopping address value) (starting m.registers address value)
      (write_keeps m.registers address value) (λ t. write_starts m.registers address value t ok) s)
      (λ _. s)
