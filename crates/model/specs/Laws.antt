-- Laws over whole runs.
use Rattle.std.specs.Prelude.{◌≡◌, ℕ, ◌+◌, ◌-◌, ◌<◌, ◌≤◌, Bool, true, false, ◌&&◌, ◌||◌, ◌↔◌, List, [], ◌∷◌, ◌++◌, length, get_or, take, replicate, Some, sum, Option, nat_lt, slice_index_or, slice_range, Ok}
use Rattle.command.specs.Commands.{heard_of}
use Rattle.command.specs.declared.command.Command.TheVariants.{Read}
use Rattle.command.specs.declared.command.Heard.TheVariants.{Whole}
use Rattle.histogram.specs.Bins.{NoneFull}
use Rattle.line.specs.Reply.{reply}
use Rattle.recorder.specs.Map.{page_from}
use Rattle.model.specs.declared.calls.Action.TheVariants.{Byte}
use Rattle.model.specs.declared.calls.Call.{Call}
use Rattle.model.specs.declared.calls.Call.TheVariants.{Lent, Gap}
use Rattle.model.specs.declared.calls.Success.TheVariants.{Done, Collected}
use Rattle.model.specs.declared.calls.Outcome.{Outcome}
use Rattle.model.specs.Model.{Model, fresh}
use Rattle.model.specs.Stand.{stand}
use Rattle.model.specs.Runs.{ends}

-- ---- counts

-- The moment of making: both counters are 0.
abbrev pub making : Outcome
making = record { answer = Ok Done; wire = replicate 80 0; current = 0; total = 0 }

-- The moments of a run: making, and then one after each call.
abbrev pub moments : List Outcome → List Outcome
moments os = making ∷ os

abbrev pub current_at : List Outcome → ℕ → ℕ
current_at os i = (get_or (moments os) i making).current

abbrev pub total_at : List Outcome → ℕ → ℕ
total_at os i = (get_or (moments os) i making).total

-- From one moment to the next a set was taken: Total rose.
abbrev pub took_set : Outcome → Outcome → Bool
took_set o p = nat_lt o.total p.total

-- From one moment to the next sets were cleared: Current fell.
abbrev pub cleared_sets : Outcome → Outcome → Bool
cleared_sets o p = nat_lt p.current o.current

-- Sets were cleared at some call that follows the moment o.
abbrev pub some_cleared : Outcome → List Outcome → Bool
some_cleared o [] = false
some_cleared o (p ∷ os) = cleared_sets o p || some_cleared p os

-- A set was taken at some call that follows the moment o, and sets were cleared after it.
abbrev pub some_lost : Outcome → List Outcome → Bool
some_lost o [] = false
some_lost o (p ∷ os) = (took_set o p && some_cleared p os) || some_lost p os

-- What follows moment i, up to moment j.
abbrev pub following : ℕ → ℕ → List Outcome → List Outcome
following i j os = slice_range os i j

-- Between two moments, from a Current of 0 and while Total is below its top: Current is what Total grew by exactly if no set that was
-- taken in between was cleared in between.
abbrev pub Counts : List Outcome → Type 0
Counts os =
    (i j : ℕ) → i ≤ j → j ≤ length os → current_at os i ≡ 0 → total_at os j < 0xFFFFFF
    → (current_at os j ≡ total_at os j - total_at os i) ↔ (some_lost (slice_index_or (moments os) i making) (following i j os) ≡ false)

-- ---- bins

-- While none of the bins of a channel that is on is at its top, they add up to n.
abbrev pub AddUp : Bool → ℕ → List ℕ → ℕ → Type 0
AddUp on count bins n = on ≡ true → NoneFull count bins → sum bins ≡ n

-- The bins of temperature and of channel 1 add up to the number of sets since the last clear.
pub record BinsAddUp (m : Model) : Type 0 where
  pub temperature : AddUp m.plan.rules.channels.temperature 63 (stand m).contents.recorded.temperatures (length m.sets)
  pub one : AddUp m.plan.rules.channels.one 64 (stand m).contents.recorded.voltages (length m.sets)

-- ---- replies

module _ (wire : List ℕ → List ℕ) (accepted : List ℕ → Option (List ℕ)) where
  -- The model after the first i calls of a run.
  abbrev pub model_at : List ℕ → List Call → ℕ → Model
  model_at serial cs i = ends wire (fresh serial) (take i cs)

  -- The page that is read at an address after the first i calls.
  abbrev pub page_at : List ℕ → List Call → ℕ → ℕ → List ℕ
  page_at serial cs i address = page_from (stand (model_at serial cs i)).contents address

  -- Call j completes a read that is accepted: no reply waits, the byte makes a whole read command, and its address lies in the map.
  pub record ReadsAt (serial : List ℕ) (cs : List Call) (j address : ℕ) : Type 0 where
    pub byte : ℕ
    pub within : j < length cs
    pub arrives : get_or cs j Gap ≡ Lent 2048 16 (Byte byte)
    pub free : (model_at serial cs j).line.waits ≡ false
    pub whole : heard_of ((model_at serial cs j).received ++ byte ∷ []) ≡ Whole (Read address)
    pub inside : address < 0x1800

  -- An accepted read leaves its page waiting, as it is just after the byte that completed it.
  abbrev pub Waits : List ℕ → List Call → Type 0
  Waits serial cs = (j address : ℕ) → ReadsAt serial cs j address → (model_at serial cs (j + 1)).line ≡ reply (page_at serial cs (j + 1) address) true

  -- The wire bytes that were collected by call i are accepted at the far end, and read as the page of the latest read before it, as it was
  -- just after the byte that completed that read.
  pub record ReadBack (serial : List ℕ) (cs : List Call) (i n : ℕ) (bytes : List ℕ) : Type 0 where
    pub j : ℕ
    pub address : ℕ
    pub earlier : j < i
    pub reads : ReadsAt serial cs j address
    pub latest : (k other : ℕ) → j < k → k < i → ReadsAt serial cs k other → ⊥
    pub page : accepted (take n bytes) ≡ Some (page_at serial cs (j + 1) address)

  abbrev pub Replies : List ℕ → List Call → List Outcome → Type 0
  Replies serial cs os = (i n : ℕ) → i < length os → (get_or os i making).answer ≡ Ok (Collected n) → ReadBack serial cs i n (get_or os i making).wire
