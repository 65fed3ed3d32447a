-- A row of the log: the codes of one sample set.
use Rattle.std.specs.Prelude.{ℕ, List, [], ◌∷◌, length, Some, None, Option}
use Rattle.memory.specs.declared.row.Row.{Row}
use Rattle.memory.specs.declared.row.Row.TheVariants.{One, Two, Four}

-- The bytes of a row, in the order in which they stand in the log.
abbrev pub bytes_of : Row → List ℕ
bytes_of (One a) = a ∷ []
bytes_of (Two a b) = a ∷ b ∷ []
bytes_of (Four a b c d) = a ∷ b ∷ c ∷ d ∷ []

-- How many bytes a row has.
abbrev pub width_of : Row → ℕ
width_of row = length (bytes_of row)

-- The row of the codes of one to four channels. Three channels leave a spare byte, 0, at the end.
abbrev pub row_of : List ℕ → Option Row
row_of [] = None
row_of (a ∷ []) = Some (One a)
row_of (a ∷ b ∷ []) = Some (Two a b)
row_of (a ∷ b ∷ c ∷ []) = Some (Four a b c 0)
row_of (a ∷ b ∷ c ∷ d ∷ []) = Some (Four a b c d)
row_of (a ∷ b ∷ c ∷ d ∷ e ∷ more) = None
