-- The log: rows of w bytes in a memory of 2,048 bytes. Row i, counted from 0 through the whole mission, begins at byte
-- w × (i mod capacity).
use Rattle.std.specs.Prelude.{◌≡◌, ℕ, ◌+◌, ◌*◌, ◌/◌, ◌%◌, ◌<◌, ◌≤◌, min, Bool, true, false, cond, not, ◌||◌, ◌⊎◌, List, length, take, ◌==◌, nat_le, slice_index, slice_index_or}
use Rattle.std.specs.List.{flat_map, AllByRecursion}
use Rattle.ring.specs.History.{ring_of}
use Rattle.ring.specs.Steps.{stored_all, advanced_all}
use Rattle.memory.specs.declared.row.Row.{Row}
use Rattle.memory.specs.declared.row.Row.TheVariants.{One}
use Rattle.memory.specs.Rows.{bytes_of, width_of}

-- ---- What one write does

-- A row is written unless the log is full and does not roll over.
abbrev pub takes : Bool → Bool → Bool
takes roll full = roll || not full

-- The memory after a row: its bytes go to the stored place, one after the other.
abbrev pub stored_row : Bool → Bool → List ℕ → ℕ → Row → List ℕ
stored_row roll full memory next row = cond (takes roll full) (stored_all memory next (bytes_of row)) memory

-- The stored place after a row, in a memory of `size` bytes.
abbrev pub next_row : Bool → Bool → ℕ → ℕ → Row → ℕ
next_row roll full size next row = cond (takes roll full) (advanced_all size next (bytes_of row)) next

-- The log is full once the place has come round to 0, and stays so.
abbrev pub full_after : Bool → ℕ → Bool
full_after full next = full || next == 0

-- How many bytes of the log hold rows.
abbrev pub used_of : ℕ → Bool → ℕ
used_of next full = cond full 2048 next

-- ---- What the log stands for

-- A row is one, two or four bytes wide.
abbrev pub Width : ℕ → Type 0
Width w = (w ≡ 1) ⊎ ((w ≡ 2) ⊎ (w ≡ 4))

-- How many rows fit.
abbrev pub capacity : ℕ → ℕ
capacity w = 2048 / w

-- The rows of one mission have one width.
abbrev pub Wide : ℕ → List Row → Type 0
Wide w rows = AllByRecursion (λ row. width_of row ≡ w) rows

-- The rows that go into the log: all rows with roll-over on, and with it off the first that fit.
abbrev pub written : Bool → ℕ → List Row → List Row
written true w rows = rows
written false w rows = take (capacity w) rows

-- The log's memory after all rows of a mission: the roll-over store of 2,048 bytes of the rows written, byte after byte.
abbrev pub log_of : Bool → ℕ → List Row → List ℕ
log_of roll w rows = ring_of 2048 0 (flat_map bytes_of (written roll w rows))

-- Where row i begins.
abbrev pub offset : ℕ → ℕ → ℕ
offset w i = w * (i % capacity w)

-- A lent memory, the stored place and the full mark stand for the rows of a mission.
pub record LogStands (roll : Bool) (w : ℕ) (rows : List Row) (memory : List ℕ) (next : ℕ) (full : Bool) : Type 0 where
  pub width : Width w
  pub wide : Wide w rows
  pub held : memory ≡ log_of roll w rows
  pub place : next ≡ offset w (length (written roll w rows))
  pub mark : full ≡ nat_le (capacity w) (length rows)

-- How many bytes of the log n rows use.
abbrev pub used_by : ℕ → ℕ → ℕ
used_by w n = w * min n (capacity w)

-- ---- What a reader finds

-- Of n rows, row i can still be read: with roll-over on it is among the last `capacity` rows, and with it off among the first.
abbrev pub Kept : Bool → ℕ → ℕ → ℕ → Type 0
Kept true w n i = n ≤ i + capacity w
Kept false w n i = i < capacity w

-- Byte j of row i.
abbrev pub row_byte : List Row → ℕ → ℕ → ℕ
row_byte rows i j = slice_index (bytes_of (slice_index_or rows i (One 0))) j

-- Each byte of each row that is kept stands at its place, and every place not written yet holds 0.
pub record LogReads (roll : Bool) (w : ℕ) (rows : List Row) (memory : List ℕ) : Type 0 where
  pub size : length memory ≡ 2048
  pub kept : (i j : ℕ) → i < length rows → Kept roll w (length rows) i → j < w → slice_index memory (offset w i + j) ≡ row_byte rows i j
  pub unwritten : (k : ℕ) → w * length rows ≤ k → k < 2048 → slice_index memory k ≡ 0
