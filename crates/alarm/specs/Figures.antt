-- The worked figures of the alarm records, for a side that keeps six.
use Rattle.std.specs.Prelude.{◌≡◌, ℕ, ◌≤◌, true, false, List, [], ◌∷◌, ◌++◌, length, replicate}
use Rattle.alarm.specs.declared.record.AlarmRecord.{AlarmRecord}
use Rattle.alarm.specs.Pieces.{stamp_of, cut, pieces, kept, blank}
use Rattle.alarm.specs.Held.{held_of}

-- The alarm record of a stamp and a length.
abbrev pub alarm_record : ℕ → ℕ → AlarmRecord
alarm_record stamp length = record { stamp = stamp; length = length }

-- The first five of the pieces of a stretch that begins at set 1 and has more than 1275 sets.
abbrev pub five_full : List AlarmRecord
five_full = alarm_record 1 255 ∷ alarm_record 256 255 ∷ alarm_record 511 255 ∷ alarm_record 766 255 ∷ alarm_record 1021 255 ∷ []

-- The figures, each a value of the definitions.
abbrev pub Figures : Type 0
Figures =
    -- 256 sets in a row are two pieces, and the second still grows; the four records not used are zero.
    (held_of 6 (replicate 256 true) ≡ record {
      records = alarm_record 1 255 ∷ alarm_record 256 1 ∷ blank ∷ blank ∷ blank ∷ blank ∷ [];
      used = 2;
      growing = true;
    })
    -- A stretch that ends with a full piece, and the next stretch two sets later.
    × (held_of 6 (replicate 255 true ++ false ∷ true ∷ []) ≡ record {
      records = alarm_record 1 255 ∷ alarm_record 257 1 ∷ blank ∷ blank ∷ blank ∷ blank ∷ [];
      used = 2;
      growing = true;
    })
    -- The sixth piece grows to its own end.
    × (held_of 6 (replicate 1529 true) ≡ record { records = five_full ++ alarm_record 1276 254 ∷ []; used = 6; growing = true })
    × (held_of 6 (replicate 1530 true) ≡ record { records = five_full ++ alarm_record 1276 255 ∷ []; used = 6; growing = false })
    -- The next set would begin a seventh, which is not kept.
    × (length (pieces (replicate 1530 true ++ true ∷ [])) ≡ 7)
    × (held_of 6 (replicate 1530 true ++ true ∷ []) ≡ record { records = five_full ++ alarm_record 1276 255 ∷ []; used = 6; growing = false })
    -- Of seven separate stretches six are kept.
    × (kept 6 (true ∷ false ∷ true ∷ false ∷ true ∷ false ∷ true ∷ false ∷ true ∷ false ∷ true ∷ false ∷ true ∷ [])
    ≡ alarm_record 1 1 ∷ alarm_record 3 1 ∷ alarm_record 5 1 ∷ alarm_record 7 1 ∷ alarm_record 9 1 ∷ alarm_record 11 1 ∷ [])
    -- A piece that begins past set 16777215 has that number for its stamp.
    × (cut (record { first = 16777000; sets = 300 }) ≡ alarm_record 16777000 255 ∷ alarm_record 16777215 45 ∷ [])
    × (cut (record { first = 16777216; sets = 1 }) ≡ alarm_record 16777215 1 ∷ [])
    × ((n : ℕ) → 16777215 ≤ n → stamp_of n ≡ 16777215)
