-- What one put, and several puts, do to a lent memory and to the stored place of the next entry.
use Rattle.std.specs.Prelude.{ℕ, ◌+◌, ◌%◌, cond, List, [], ◌∷◌, length, nat_lt, slice_set}

-- The entry goes to the stored place, reduced by the memory's length. An empty memory stays empty.
abbrev pub stored : {X : Type 0} → List X → ℕ → X → List X
stored memory next x = slice_set memory (next % length memory) x

-- The place goes up by one, and from the last place of `size` places to 0. With no place at all it stays as it is.
abbrev pub advanced : ℕ → ℕ → ℕ
advanced size next = cond (nat_lt 0 size) ((next % size + 1) % size) next

-- Several entries are stored one after the other.
abbrev pub stored_all : {X : Type 0} → List X → ℕ → List X → List X
stored_all memory next [] = memory
stored_all memory next (x ∷ xs) = stored_all (stored memory next x) (advanced (length memory) next) xs

-- The place goes up once for each of several entries.
abbrev pub advanced_all : {X : Type 0} → ℕ → ℕ → List X → ℕ
advanced_all size next [] = next
advanced_all size next (x ∷ xs) = advanced_all size (advanced size next) xs
