-- What a side holds of a history, and how one more set changes it. The number of records kept is m.
use Rattle.std.specs.Prelude.{◌≡◌, ℕ, ◌+◌, ◌-◌, Bool, true, false, cond, ◌&&◌, List, [], ◌∷◌, ◌++◌, length, replicate, nat_le, nat_lt, slice_index_or, slice_set}
use Rattle.alarm.specs.declared.record.AlarmRecord.{AlarmRecord}
use Rattle.alarm.specs.Pieces.{pieces, kept, blank, last_length, stamp_of}

-- All records of a side, how many of them are kept pieces, and whether the last of those still grows.
pub record Held : Type 0 where
  pub records : List AlarmRecord
  pub used : ℕ
  pub growing : Bool

-- The kept records, followed by zero records up to m.
abbrev pub padded : ℕ → List AlarmRecord → List AlarmRecord
padded m records = records ++ replicate (m - length records) blank

-- Whether the newest set was at or past the limit.
abbrev pub newest_past : List Bool → Bool
newest_past sets = slice_index_or sets (length sets - 1) false

-- The last piece is unfinished if the newest set was at or past the limit and the piece has fewer than 255 sets.
abbrev pub unfinished : List Bool → Bool
unfinished sets = newest_past sets && nat_lt (last_length (pieces sets) (length (pieces sets))) 255

-- What a side holds after a history. Its last record grows while the last piece is unfinished, if no piece was left out.
abbrev pub held_of : ℕ → List Bool → Held
held_of m sets = record {
  records = padded m (kept m sets);
  used = length (kept m sets);
  growing = unfinished sets && nat_le (length (pieces sets)) m;
}

-- The record one set longer.
abbrev pub longer : AlarmRecord → AlarmRecord
longer r = record { stamp = r.stamp; length = r.length + 1 }

-- One more set of the piece that grows.
abbrev pub grown : Held → Held
grown h = record {
  records = slice_set h.records (h.used - 1) (longer (slice_index_or h.records (h.used - 1) blank));
  used = h.used;
  growing = nat_lt (last_length h.records h.used + 1) 255;
}

-- The first set of a new piece.
abbrev pub begun : Held → ℕ → Held
begun h stamp = record {
  records = slice_set h.records h.used (record { stamp = stamp; length = 1 });
  used = h.used + 1;
  growing = true;
}

-- The piece that grew has ended.
abbrev pub ended : Held → Held
ended h = record { records = h.records; used = h.used; growing = false }

-- One more set, with its stamp, and whether it is at or past the limit.
abbrev pub noted : ℕ → Held → ℕ → Bool → Held
noted m h stamp past = cond past (cond h.growing (grown h) (cond (nat_lt h.used m) (begun h stamp) h)) (ended h)

-- For any number m of records kept: one more set changes what the history so far defines into what that history and this set define.
abbrev pub AnyNumberKept : Type 0
AnyNumberKept = (m : ℕ) (sets : List Bool) (past : Bool)
    → held_of m (sets ++ past ∷ []) ≡ noted m (held_of m sets) (stamp_of (length sets + 1)) past
