-- Seconds, and presses of the button.
use Rattle.std.proofs.Common.{◌≡◌, ◌+◌, ◌≤◌, Bool, true, false, cond, ◌&&◌, ltb, Some, refl, ap, ◌∙◌}
use Rattle.std.proofs.lemmas.Bool.{and_parts, ltb-true, cond_both}
use Rattle.clock.specs.Ticking.{rolls_over}
use Rattle.mission.specs.Channels.{any_on}
use Rattle.mission.specs.Schedule.{Countdown, due, taken}
use Rattle.mission.specs.Setting.{can_run}
use Rattle.mission.specs.PerChannel.{Codes}
use Rattle.registers.specs.Contents.{Contents as Registers, with_ready}
use Rattle.registers.specs.Steps.{by_button, channels_on, tick_after, latch_after, count_down_after}
use Rattle.recorder.specs.Contents.{Contents, joined, with_registers, with_mission}
use Rattle.recorder.specs.Control.{press_starts}
use Rattle.recorder.specs.Seconds.{sampled, rolled, rolled_in, passed, pressed}
use Rattle.recorder.specs.State.{state}
use Rattle.model.specs.Model.{Model, with_registers as model_with, with_sensing as model_sensing, rolls}
use Rattle.model.specs.Rules.{served as model_served, rolled as model_rolled, passed as model_passed, pressed as model_pressed}
use Rattle.model.proofs.Invariants.{Sound}
use Rattle.model.specs.Stand.{countdown_at, running_at, contents_of, stand}
use Rattle.model.proofs.Changes.{set_running, started_stands, sampled_stands}
use Rattle.model.proofs.Parts.{countdown_takes, countdown_more}
use Rattle.model.proofs.Sounds.{started_sound, sampled_sound}
use Rattle.model.proofs.Ways.{chosen, same_chosen}

-- ---- a rollover in a mission

module _ (codes : Codes) (low : codes.temperature ≤ 250) where
  module _ (m : Model) (s : Sound (set_running m true)) where
    abbrev running : Model
    running = set_running m true

    abbrev rolling : Model
    rolling = rolls running (count_down_after m.registers)

    -- What the recorder holds after the rollover, with the schedule of its mission.
    abbrev rolled_with : Countdown → Contents
    rolled_with schedule =
        with_mission (with_registers (contents_of running) (count_down_after m.registers)) (Some (record { rules = m.plan.rules; schedule = schedule }))

    rolled_stands : state (rolled_in (contents_of running) (running_at m.plan m.k) codes) m.line ≡ stand (model_rolled running codes)
    rolled_stands =
        ap (λ (c : Countdown). state (cond (taken (countdown_at m.plan m.k)) (sampled (rolled_with c) m.plan.rules codes) (rolled_with c)) m.line)
        (countdown_more m.plan m.k (s.some_rate refl))
        ∙ ap (λ (t : Bool). state (cond t (sampled (contents_of rolling) m.plan.rules codes) (contents_of rolling)) m.line)
        (countdown_takes m.plan m.k (s.some_rate refl))
        ∙ chosen (λ c. state c m.line) (due m.plan.delay m.plan.rate (m.k + 1)) _ _ _ _
        (λ _. sampled_stands rolling codes (s.some_channel refl) low)
        (λ _. refl)

  -- A second, once an open sensor read has been served: it may be a rollover, in a mission or not.
  gone_on : (m : Model) (b over : Bool) → Sound (set_running m b)
      → state (cond over (rolled (contents_of (set_running m b)) codes) (contents_of (set_running m b))) m.line
      ≡ stand (cond (over && b) (model_rolled (set_running m b) codes) (set_running m b))
  gone_on m true true s = rolled_stands m s
  gone_on m false true s = refl
  gone_on m b false s = refl

  -- A second of a model whose sensor read is open or not.
  passed_as : (m : Model) (sensing : Bool) → Sound m
      → state (passed (contents_of (model_sensing m m.registers sensing)) codes) m.line ≡ stand (model_passed (model_sensing m m.registers sensing) codes)
  passed_as m true s =
      let r = tick_after m.registers in
      gone_on (model_sensing m (with_ready (latch_after r (channels_on r) codes) true) false) m.in_mission (rolls_over m.registers.moment) s
  passed_as m false s = gone_on (model_sensing m (tick_after m.registers) false) m.in_mission (rolls_over m.registers.moment) s

  pub passed_stands : (m : Model) → Sound m → state (passed (contents_of m) codes) m.line ≡ stand (model_passed m codes)
  passed_stands m s = passed_as m m.sensing s

module _ (codes : Codes) (m : Model) (s : Sound m) where
  abbrev shown : Model
  shown = model_served (model_with m (tick_after m.registers)) codes

  served_sound : Sound shown
  served_sound = cond_both m.sensing _ _ Sound (λ _. s) (λ _. s)

  served_running : shown.in_mission ≡ m.in_mission
  served_running = same_chosen (λ (n : Model). n.in_mission) m.sensing _ _ m.in_mission refl refl

rolled_sound : (codes : Codes) (m : Model) → m.in_mission ≡ true → Sound m → Sound (model_rolled m codes)
rolled_sound codes m running s =
    cond_both (due m.plan.delay m.plan.rate (m.k + 1)) _ _ Sound
    (λ _. sampled_sound (rolls m (count_down_after m.registers)) codes running s)
    (λ _. s)

pub passed_sound : (codes : Codes) (m : Model) → Sound m → Sound (model_passed m codes)
passed_sound codes m s =
    cond_both (rolls_over m.registers.moment && m.in_mission) _ _ Sound
    (λ e. rolled_sound codes (shown codes m s) (served_running codes m s ∙ (and_parts (rolls_over m.registers.moment) m.in_mission e).1) (served_sound codes m s))
    (λ _. served_sound codes m s)

-- ---- a press

-- A press that starts a mission finds a record that reads as cleared, a rate and a channel.
module _ (r : Registers) (e : press_starts r ≡ true) where
  press_parts : (r.cleared ≡ true) × (can_run r.rate (channels_on r) ≡ true)
  press_parts = and_parts r.cleared (can_run r.rate (channels_on r)) (and_parts (by_button r) (r.cleared && can_run r.rate (channels_on r)) e).1

  press_cleared : r.cleared ≡ true
  press_cleared = press_parts.0

  press_runs : (ltb 0 r.rate ≡ true) × (any_on (channels_on r) ≡ true)
  press_runs = and_parts (ltb 0 r.rate) (any_on (channels_on r)) press_parts.1

module _ (m : Model) (s : Sound m) where
  pub pressed_stands : state (pressed (contents_of m)) m.line ≡ stand (model_pressed m)
  pressed_stands =
      chosen (λ c. state (joined c (contents_of m).recorded) m.line) (press_starts m.registers) _ _ _ _
      (λ e. started_stands m 0 (s.no_sets (press_cleared m.registers e)))
      (λ _. refl)

  pub pressed_sound : Sound (model_pressed m)
  pressed_sound =
      cond_both (press_starts m.registers) _ _ Sound
      (λ e. let runs = press_runs m.registers e in started_sound m 0 (ltb-true 0 m.registers.rate runs.0) runs.1)
      (λ _. s)
