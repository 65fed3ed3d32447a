-- The log of a history: one more set is one more row.
use Rattle.std.proofs.Common.{◌≡◌, ℕ, ◌+◌, ◌*◌, ◌<◌, ◌≤◌, Bool, true, false, leb, ◌⊎◌, List, [], ◌∷◌, ◌++◌, length, replicate, refl, ◌∙◌, subst, inl, inr, mul-le-mul_left, mul-zero, arith}
use native.Mathlib.Nat.{zero-mod}
use lib.Seq.{take-nil}
use Rattle.std.proofs.lemmas.List.{length-map, map_push}
use Rattle.std.proofs.lemmas.Bool.{cases_lt, le-leb, lt-leb}
use Rattle.memory.specs.Logs.{Width, Wide, LogStands, capacity, written, offset, log_of}
use Rattle.memory.proofs.Laws.{row_after, row_reads}
use Rattle.memory.proofs.Stores.{held_first}
use Rattle.mission.specs.Channels.{any_on}
use Rattle.record.specs.Sets.{SampleSet, Rules, row_for, width_by}
use Rattle.record.specs.Contents.{Contents}
use Rattle.record.specs.Histories.{Reads, rows_of, record_of}
use Rattle.record.specs.Taking.{taken}
use Rattle.record.proofs.Rows.{lawful_width, wide_row}

-- ---- No row yet, whatever the width

written_none : (roll : Bool) (w : ℕ) → written roll w [] ≡ []
written_none true w = refl
written_none false w = take-nil (capacity w)

pub memory_none : (roll : Bool) (w : ℕ) (memory : List ℕ) → length memory ≡ 2048 → memory ≡ replicate (length memory) 0 → memory ≡ log_of roll w []
memory_none roll w memory size blank = rw (written_none roll w) (held_first 2048 0 memory size blank)

pub place_none : (roll : Bool) (w : ℕ) → offset w (length (written roll w [])) ≡ 0
place_none roll w = rw (written_none roll w, zero-mod (capacity w)) (mul-zero w)

pub mark_none : (w : ℕ) → leb 2048 (w * 0) ≡ false
mark_none w = rw (mul-zero w)

-- ---- The mark: n rows of w bytes fill 2,048 bytes exactly if n rows fill the capacity.

scaled_by : (w fit n : ℕ) → 0 < w → (n < fit) ⊎ (fit ≤ n) → leb (w * fit) (w * n) ≡ leb fit n
scaled_by w fit n h (inl l) =
    let p : w * (n + 1) ≤ w * fit = mul-le-mul_left w (omega arith) in
    rw (lt-leb fit n l) (lt-leb (w * fit) (w * n) (omega arith))
scaled_by w fit n h (inr l) = rw (le-leb fit n l) (le-leb (w * fit) (w * n) (mul-le-mul_left w l))

scaled : (w fit n : ℕ) → 0 < w → leb (w * fit) (w * n) ≡ leb fit n
scaled w fit n h = scaled_by w fit n h (cases_lt n fit)

pub mark : (w n : ℕ) → Width w → leb 2048 (w * n) ≡ leb (capacity w) n
mark w n (inl e) = rw e (scaled 1 2048 n (omega arith))
mark w n (inr (inl e)) = rw e (scaled 2 1024 n (omega arith))
mark w n (inr (inr e)) = rw e (scaled 4 512 n (omega arith))

-- ---- The rows of a history

module _ (p : Rules) (h : any_on p.channels ≡ true) where
  wide_rows : (sets : List SampleSet) → Wide (width_by p) (rows_of p sets)
  wide_rows [] = tt
  wide_rows (s ∷ sets) = (wide_row p.channels s.codes h, wide_rows sets)

  -- The log of a history stands for its rows.
  pub log_stands : (sets : List SampleSet)
      → LogStands p.roll_over (width_by p) (rows_of p sets) (record_of p sets).memory (record_of p sets).next (record_of p sets).full
  log_stands sets = record {
    width = lawful_width p.channels h;
    wide = wide_rows sets;
    held = refl;
    place = refl;
    mark = mark (width_by p) (length sets) (lawful_width p.channels h) ∙ rw (length-map sets (row_for p));
  }

  -- One more set writes its row.
  pub log_stands_more : (sets : List SampleSet) (s : SampleSet) → let k : Contents = taken p (record_of p sets) s in
      LogStands p.roll_over (width_by p) (rows_of p (sets ++ s ∷ [])) k.memory k.next k.full
  log_stands_more sets s =
      rw (map_push (row_for p) sets s)
      (row_after (width_by p) (rows_of p sets) (row_for p s) _ _ _ _ _ _ (wide_row p.channels s.codes h) p.roll_over refl refl refl
      (log_stands sets))

  -- A reader finds the rows of the history with that set.
  pub reads_more : (sets : List SampleSet) (s : SampleSet) → Reads p (sets ++ s ∷ []) (taken p (record_of p sets) s).memory
  reads_more sets s =
      rw (map_push (row_for p) sets s)
      (row_reads (width_by p) (rows_of p sets) (row_for p s) _ _ _ _ _ _ (wide_row p.channels s.codes h) p.roll_over refl refl refl
      (log_stands sets))

  -- It is the log of that history that the reader has.
  pub reads_of : (sets : List SampleSet) (s : SampleSet) → Reads p (sets ++ s ∷ []) (record_of p (sets ++ s ∷ [])).memory
  reads_of sets s = subst (Reads p (sets ++ s ∷ [])) (log_stands_more sets s).held (reads_more sets s)
