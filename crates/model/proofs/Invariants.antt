-- What holds of every model that a run reaches, and the statement that a recorder stepped exactly stands for its model.
use Rattle.std.proofs.Common.{◌≡◌, ℕ, ◌<◌, Bool, true, false, List, []}
use Rattle.mission.specs.Channels.{any_on}
use Rattle.record.specs.Sets.{SampleSet}
use Rattle.recorder.specs.State.{made_state}
use Rattle.model.specs.declared.calls.Call.{Call}
use Rattle.model.specs.Model.{Model, Plan, fresh}
use Rattle.model.specs.Stand.{stand}
use Rattle.model.specs.Runs.{ends, story}
use Rattle.model.specs.Steps.{outcomes, run_after}

-- A mission in progress has a rate that is not 0 and a channel that is on, and while it runs the record does not read as cleared.
-- A record that reads as cleared has no set.
pub record Keeps (in_mission cleared : Bool) (plan : Plan) (sets : List SampleSet) : Type 0 where
  pub not_cleared : in_mission ≡ true → cleared ≡ false
  pub some_rate : in_mission ≡ true → 0 < plan.rate
  pub some_channel : in_mission ≡ true → any_on plan.rules.channels ≡ true
  pub no_sets : cleared ≡ true → sets ≡ []

abbrev pub Sound : Model → Type 0
Sound m = Keeps m.in_mission m.registers.cleared m.plan m.sets

-- A recorder as it is made holds what stands for the model with no history. From there every run notes the model's story, and leaves
-- what stands for the model that the run ends at.
pub record Refines (wire : List ℕ → List ℕ) (serial : List ℕ) (calls : List Call) : Type 0 where
  pub made : made_state serial ≡ stand (fresh serial)
  pub noted : outcomes wire (made_state serial) calls ≡ story wire (fresh serial) calls
  pub left : run_after wire (made_state serial) calls ≡ stand (ends wire (fresh serial) calls)
  pub sound : Sound (ends wire (fresh serial) calls)
