-- The lengths of the memories that a recorder is lent.
use Rattle.std.specs.Prelude.{ℕ, Bool, ◌&&◌, ◌==◌}

-- Memories of these lengths can serve: a log of 2,048 bytes and a journal of 16 entries.
abbrev pub serves : ℕ → ℕ → Bool
serves log journal = log == 2048 && journal == 16
