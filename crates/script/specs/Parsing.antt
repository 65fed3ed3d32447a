-- How a line is taken apart, from its front.
use Rattle.std.specs.Prelude.{ℕ, List, [], ◌∷◌, Some, None, Option}
use Rattle.script.specs.declared.call.Call.{Call}

-- The call whose line ends where nothing is left.
abbrev pub ended : List ℕ → Call → Option Call
ended [] call = Some call
ended (x ∷ rest) call = None
