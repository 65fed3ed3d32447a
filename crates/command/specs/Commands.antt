-- What received bytes say: a command is one code byte and the parameter bytes behind it.
use Rattle.std.specs.Prelude.{ℕ, ◌+◌, ◌*◌, Bool, true, false, cond, ◌||◌, List, [], ◌∷◌, ◌==◌}
use Rattle.command.specs.declared.command.Command.TheVariants.{Write, Read, ReadSensors, Clear}
use Rattle.command.specs.declared.command.Heard.{Heard}
use Rattle.command.specs.declared.command.Heard.TheVariants.{Part, Whole, Unknown}

-- 22h writes and 33h reads: two parameters follow
abbrev pub has_parameters : ℕ → Bool
has_parameters code = code == 0x22 || code == 0x33

-- a code alone
abbrev pub heard_code : ℕ → Heard
heard_code code = cond (has_parameters code) Part (cond (code == 0x55) (Whole ReadSensors) (cond (code == 0xA5) (Whole Clear) Unknown))

-- a code and its two parameters: a write has address and value, a read the address, high byte first
abbrev pub heard_whole : ℕ → ℕ → ℕ → Heard
heard_whole code x y = cond (code == 0x22) (Whole (Write x y)) (cond (code == 0x33) (Whole (Read (256 * x + y))) Unknown)

abbrev pub heard_of : List ℕ → Heard
heard_of [] = Part
heard_of (code ∷ []) = heard_code code
heard_of (code ∷ (x ∷ [])) = cond (has_parameters code) Part Unknown
heard_of (code ∷ (x ∷ (y ∷ []))) = heard_whole code x y
heard_of (code ∷ (x ∷ (y ∷ (z ∷ rest)))) = Unknown

-- more bytes are to come
abbrev pub is_part : Heard → Bool
is_part Part = true
is_part (Whole command) = false
is_part Unknown = false
