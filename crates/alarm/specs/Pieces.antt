-- The alarm pieces of one side over a history: for each set since the last clear, oldest first, whether it was at or past the limit.
-- The first set has the number 1.
use Rattle.std.specs.Prelude.{ℕ, suc, ◌+◌, ◌-◌, ◌*◌, ◌/◌, min, Bool, true, false, List, [], ◌∷◌, map, take, slice_index_or}
use Rattle.std.specs.List.{range_with_len, flat_map}
use Rattle.alarm.specs.declared.record.AlarmRecord.{AlarmRecord}

-- A stretch is a longest run of sets at or past the limit: the number of its first set, and how many sets it has.
pub record Stretch : Type 0 where
  pub first : ℕ
  pub sets : ℕ

-- How many sets at or past the limit stand at the front.
abbrev pub run : List Bool → ℕ
run [] = 0
run (false ∷ sets) = 0
run (true ∷ sets) = suc (run sets)

-- The stretches that begin in the sets from number n on; `inside` says whether the set before them was at or past the limit.
abbrev pub stretches_from : ℕ → Bool → List Bool → List Stretch
stretches_from n inside [] = []
stretches_from n inside (false ∷ sets) = stretches_from (n + 1) false sets
stretches_from n false (true ∷ sets) = record { first = n; sets = suc (run sets) } ∷ stretches_from (n + 1) true sets
stretches_from n true (true ∷ sets) = stretches_from (n + 1) true sets

-- The stretches of a history.
abbrev pub stretches : List Bool → List Stretch
stretches sets = stretches_from 1 false sets

-- The stamp of a set is its number, held at the highest number of three bytes.
abbrev pub stamp_of : ℕ → ℕ
stamp_of n = min n 0xFF_FFFF

-- Piece k of a stretch, counted from 0, begins 255 * k sets after the stretch does, and has 255 sets, or what is left.
abbrev pub piece : Stretch → ℕ → AlarmRecord
piece s k = record { stamp = stamp_of (s.first + 255 * k); length = min 255 (s.sets - 255 * k) }

-- A stretch is cut into as many pieces as it takes.
abbrev pub cut : Stretch → List AlarmRecord
cut s = map (piece s) (range_with_len 0 ((s.sets + 254) / 255))

-- The pieces of a history are those of its stretches, one after the other.
abbrev pub pieces : List Bool → List AlarmRecord
pieces sets = flat_map cut (stretches sets)

-- A side keeps its first m pieces.
abbrev pub kept : ℕ → List Bool → List AlarmRecord
kept m sets = take m (pieces sets)

-- A record that is not used is zero.
abbrev pub blank : AlarmRecord
blank = record { stamp = 0; length = 0 }

-- The length of the last of the first `used` records.
abbrev pub last_length : List AlarmRecord → ℕ → ℕ
last_length records used = (slice_index_or records (used - 1) blank).length
