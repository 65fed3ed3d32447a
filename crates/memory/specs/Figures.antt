-- Worked figures of the journal and the log: values of their definitions.
use Rattle.std.specs.Prelude.{◌≡◌, ℕ, true, false, List, [], ◌∷◌, map, Some, nat_le, slice_index_or}
use Rattle.std.specs.List.{range_with_len}
use Rattle.memory.specs.declared.event.EventKind.TheVariants.{Start}
use Rattle.memory.specs.declared.event.JournalEntry.{JournalEntry}
use Rattle.memory.specs.declared.row.Row.TheVariants.{Four}
use Rattle.memory.specs.Events.{blank_entry, journal_of}
use Rattle.memory.specs.Rows.{row_of}
use Rattle.memory.specs.Logs.{capacity, offset, takes, used_by}

-- A start at the Total n.
abbrev pub start_at : ℕ → JournalEntry
start_at n = record { kind = Start; address = 0x0D; total = n }

-- The journal after 17 events, event n a start at the Total n: entry 0 holds event 16, and entry 1 still event 1.
abbrev pub seventeen : List JournalEntry
seventeen = journal_of (map start_at (range_with_len 0 17))

-- The journal after three events: entry 2 holds the last of them, and entry 3 is not used yet.
abbrev pub three : List JournalEntry
three = journal_of (map start_at (range_with_len 0 3))

-- Rows of two bytes: 1,024 fit. Row 1,023 ends the log. Row 1,024 begins again at byte 0 with roll-over on, and is
-- dropped with it off. Row 16,777,216 of four bytes begins at byte 0, and the row after it at byte 4.
abbrev pub Figures : Type 0
Figures = (slice_index_or seventeen 0 blank_entry ≡ start_at 16)
    × (slice_index_or seventeen 1 blank_entry ≡ start_at 1)
    × (slice_index_or seventeen 15 blank_entry ≡ start_at 15)
    × (slice_index_or three 2 blank_entry ≡ start_at 2)
    × (slice_index_or three 3 blank_entry ≡ blank_entry)
    × (row_of (10 ∷ 20 ∷ 30 ∷ []) ≡ Some (Four 10 20 30 0))
    × (capacity 1 ≡ 2048)
    × (capacity 2 ≡ 1024)
    × (capacity 4 ≡ 512)
    × (offset 2 1023 ≡ 2046)
    × (offset 2 1024 ≡ 0)
    × (takes true (nat_le (capacity 2) 1024) ≡ true)
    × (takes false (nat_le (capacity 2) 1023) ≡ true)
    × (takes false (nat_le (capacity 2) 1024) ≡ false)
    × (offset 4 16777216 ≡ 0)
    × (offset 4 16777217 ≡ 4)
    × (used_by 2 1000 ≡ 2000)
    × (used_by 4 600 ≡ 2048)
