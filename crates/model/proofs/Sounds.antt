-- Each change keeps a model sound.
use Rattle.std.proofs.Common.{◌≡◌, ℕ, ◌<◌, Bool, true, false, List, [], refl}
use Rattle.std.proofs.lemmas.Bool.{false≢true, both_ways, cond_both}
use Rattle.mission.specs.Channels.{any_on}
use Rattle.mission.specs.PerChannel.{Codes}
use Rattle.record.specs.Sets.{SampleSet}
use Rattle.registers.specs.Steps.{channels_on}
use Rattle.model.specs.Model.{Model, Plan, fresh}
use Rattle.model.specs.Rules.{started, stopped, cleared, sampled}
use Rattle.model.proofs.Invariants.{Keeps, Sound}

-- Out of a mission, only a record that reads as cleared is bound to anything.
idle : (c : Bool) (plan : Plan) (sets : List SampleSet) → (c ≡ true → sets ≡ []) → Keeps false c plan sets
idle c plan sets none = record {
  not_cleared = λ e. absurd (false≢true e);
  some_rate = λ e. absurd (false≢true e);
  some_channel = λ e. absurd (false≢true e);
  no_sets = none;
}

pub fresh_sound : (serial : List ℕ) → Sound (fresh serial)
fresh_sound serial = idle true _ [] (λ _. refl)

pub started_sound : (m : Model) (address : ℕ) → 0 < m.registers.rate → any_on (channels_on m.registers) ≡ true → Sound (started m address)
started_sound m address rated on = record {
  not_cleared = λ _. refl;
  some_rate = λ _. rated;
  some_channel = λ _. on;
  no_sets = λ e. absurd (false≢true e);
}

pub stopped_sound : (m : Model) (address : ℕ) → Sound m → Sound (stopped m address)
stopped_sound m address s =
    cond_both m.in_mission _ _ Sound (λ _. idle m.registers.cleared m.plan m.sets s.no_sets) (λ _. s)

pub cleared_sound : (m : Model) → Sound (cleared m)
cleared_sound m = idle true m.plan [] (λ _. refl)

pub sampled_sound : (m : Model) (codes : Codes) → m.in_mission ≡ true → Sound m → Sound (sampled m codes)
sampled_sound m codes running s = record {
  not_cleared = s.not_cleared;
  some_rate = s.some_rate;
  some_channel = s.some_channel;
  no_sets = λ e. absurd (both_ways m.registers.cleared (s.not_cleared running) e);
}
