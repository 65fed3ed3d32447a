-- The log's laws, from those of the roll-over store.
use Rattle.std.proofs.Common.{◌≡◌, ℕ, ◌+◌, ◌*◌, ◌%◌, ◌<◌, ◌≤◌, Bool, true, false, ◌||◌, eqb, leb, ◌⊎◌, List, [], ◌∷◌, ◌++◌, length, get_or, replicate, sym, refl, ap, ◌∙◌, inl, inr, mod-eq_of_lt, mul-le-mul_left, mul-zero, arith, lit<, length-take, take_all, get_or-take}
use native.Mathlib.Nat.{mod_self, mul-pos, min-eq_left, min-eq_right}
use lib.Seq.{take-append-le}
use Rattle.std.proofs.lemmas.List.{length_push}
use Rattle.std.proofs.ByRecursion.{All-push, All-take}
use Rattle.std.proofs.lemmas.Bool.{cases_lt, cases_order, le-leb, lt-leb, eq-eqb, ne_eqb}
use Rattle.ring.specs.History.{Stands, ring_of}
use Rattle.ring.specs.Steps.{stored_all, advanced_all}
use Rattle.ring.proofs.Rings.{stands_after_all}
use Rattle.memory.specs.declared.row.Row.{Row}
use Rattle.memory.specs.declared.row.Row.TheVariants.{One}
use Rattle.memory.specs.Rows.{bytes_of, width_of}
use Rattle.memory.specs.Logs.{stored_row, next_row, full_after, used_of, Width, capacity, Wide, written, offset, LogStands, used_by, Kept, LogReads}
use Rattle.memory.proofs.Stores.{stands_by, held_by, held_first}
use Rattle.memory.proofs.Places.{bytes, length_bytes, get_or-bytes, bytes_push, place_byte, place_row}

-- Rows of w bytes in a store of `size` bytes, in which `fit` rows fit.
module _ (w fit size : ℕ) (h : 0 < w) (f : 0 < fit) (whole : w * fit ≡ size) where
  positive : 0 < size
  positive = rw whole at (mul-pos h f)

  place_rows : (rows : List Row) → Wide w rows → length (bytes rows) % size ≡ w * (length rows % fit)
  place_rows rows a = rw (← whole, length_bytes w rows a) (place_row w fit (length rows) h f)

  stands_rows : (rows : List Row) (memory : List ℕ) (next : ℕ) → Wide w rows
      → memory ≡ ring_of size 0 (bytes rows) → next ≡ w * (length rows % fit) → Stands size 0 (bytes rows) memory next
  stands_rows rows memory next a e p = stands_by size 0 (bytes rows) memory next positive e (p ∙ sym (place_rows rows a))

  -- One more row.
  module _ (rows : List Row) (row : Row) (memory memory' : List ℕ) (next next' : ℕ) (a : Wide w rows) (e : width_of row ≡ w)
      (held : memory ≡ ring_of size 0 (bytes rows)) (place : next ≡ w * (length rows % fit))
      (put : memory' ≡ stored_all memory next (bytes_of row)) (up : next' ≡ advanced_all (length memory) next (bytes_of row)) where
    stands_more : Stands size 0 (bytes (rows ++ row ∷ [])) memory' next'
    stands_more =
        rw (bytes_push rows row)
        (stands_after_all size 0 positive (bytes rows) memory memory' next next' (bytes_of row) put up (stands_rows rows memory next a held place))

    held_more : memory' ≡ ring_of size 0 (bytes (rows ++ row ∷ []))
    held_more = held_by size 0 (bytes (rows ++ row ∷ [])) memory' next' positive stands_more

    place_more : next' ≡ w * (length (rows ++ row ∷ []) % fit)
    place_more = stands_more.place ∙ place_rows (rows ++ row ∷ []) (All-push (λ r. width_of r ≡ w) rows row a e)

  -- The place comes round to 0 exactly with the row that fills the log.
  mark_by : (n : ℕ) → (n + 1 ≡ fit) ⊎ ((n + 1 < fit) ⊎ (fit < n + 1)) → (leb fit n || eqb (w * ((n + 1) % fit)) 0) ≡ leb fit (n + 1)
  mark_by n (inl e) =
      let z : w * (fit % fit) ≡ 0 = rw (mod_self fit) (mul-zero w) in
      rw (lt-leb fit n (omega arith), e, eq-eqb (w * (fit % fit)) 0 z, le-leb fit fit (omega arith))
  mark_by n (inr (inl l)) =
      let m : (n + 1) % fit ≡ n + 1 = mod-eq_of_lt l in
      let p : w * 1 ≤ w * (n + 1) = mul-le-mul_left w (omega arith) in
      rw (lt-leb fit n (omega arith), m, ne_eqb (w * (n + 1)) 0 (λ z. omega arith), lt-leb fit (n + 1) l)
  mark_by n (inr (inr l)) = rw (le-leb fit n (omega arith), le-leb fit (n + 1) (omega arith))

  mark_more : (n next' : ℕ) (full full' : Bool) → full ≡ leb fit n → next' ≡ w * ((n + 1) % fit) → full' ≡ full_after full next' → full' ≡ leb fit (n + 1)
  mark_more n next' full full' e p u = u ∙ rw (e, p) (mark_by n (cases_order (n + 1) fit))

-- The three widths.

positive_width : (w : ℕ) → Width w → 0 < w
positive_width w (inl e) = omega arith
positive_width w (inr (inl e)) = omega arith
positive_width w (inr (inr e)) = omega arith

some_fit : (w : ℕ) → Width w → 0 < capacity w
some_fit w (inl e) = rw e (lit< tt)
some_fit w (inr (inl e)) = rw e (lit< tt)
some_fit w (inr (inr e)) = rw e (lit< tt)

whole_rows : (w : ℕ) → Width w → w * capacity w ≡ 2048
whole_rows w (inl e) = rw e
whole_rows w (inr (inl e)) = rw e
whole_rows w (inr (inr e)) = rw e

-- No row yet.

written_none : (roll : Bool) (w : ℕ) → Width w → written roll w [] ≡ []
written_none true w v = refl
written_none false w v = take_all (capacity w) [] (omega (arith, some_fit w v))

pub no_row : (roll : Bool) (w : ℕ) (memory : List ℕ) → Width w → length memory ≡ 2048 → memory ≡ replicate (length memory) 0 → LogStands roll w [] memory 0 false
no_row roll w memory v size blank = record {
  width = v;
  wide = tt;
  held = rw (written_none roll w v) (held_first 2048 0 memory size blank);
  place = rw (written_none roll w v) (sym (ap (λ (k : ℕ). w * k) (mod-eq_of_lt (some_fit w v)) ∙ mul-zero w));
  mark = sym (lt-leb (capacity w) 0 (some_fit w v));
}

-- How much is used: by the place while the log is not full, and all of it from then on.

used_while : (roll : Bool) (w n : ℕ) (rows : List Row) → n < capacity w → length rows ≡ n → length (written roll w rows) ≡ n
used_while true w n rows l e = e
used_while false w n rows l e = ap length (take_all (capacity w) rows (omega arith)) ∙ e

used_by_cases : (roll : Bool) (w : ℕ) (rows : List Row) (memory : List ℕ) (next : ℕ) (full : Bool)
    → (length rows < capacity w) ⊎ (capacity w ≤ length rows) → LogStands roll w rows memory next full → used_of next full ≡ used_by w (length rows)
used_by_cases roll w rows memory next full (inl l) s =
    rw (s.mark, lt-leb (capacity w) (length rows) l, s.place, used_while roll w (length rows) rows l refl)
    (ap (λ (k : ℕ). w * k) (mod-eq_of_lt l ∙ sym (min-eq_left (omega arith))))
used_by_cases roll w rows memory next full (inr l) s =
    rw (s.mark, le-leb (capacity w) (length rows) l)
    (sym (ap (λ (k : ℕ). w * k) (min-eq_right l) ∙ whole_rows w s.width))

pub used_law : (roll : Bool) (w : ℕ) (rows : List Row) (memory : List ℕ) (next : ℕ) (full : Bool)
    → LogStands roll w rows memory next full → used_of next full ≡ used_by w (length rows)
used_law roll w rows memory next full s = used_by_cases roll w rows memory next full (cases_lt (length rows) (capacity w)) s

-- What a reader finds.

wide_written : (roll : Bool) (w : ℕ) (rows : List Row) → Wide w rows → Wide w (written roll w rows)
wide_written true w rows a = a
wide_written false w rows a = All-take (λ row. width_of row ≡ w) (capacity w) rows a

-- A row that is kept is among the rows written, in its own place, and late enough.
kept_written : (roll : Bool) (w : ℕ) (rows : List Row) (i : ℕ) → i < length rows → Kept roll w (length rows) i
    → (i < length (written roll w rows)) × (length (written roll w rows) ≤ i + capacity w) × (get_or (written roll w rows) i (One 0) ≡ get_or rows i (One 0))
kept_written true w rows i l k = (l, k, refl)
kept_written false w rows i l k =
    let size = length-take (capacity w) rows in
    (omega arith, omega arith, get_or-take (capacity w) rows i (One 0) k)

written_few : (roll : Bool) (w : ℕ) (rows : List Row) → length (written roll w rows) ≤ length rows
written_few true w rows = omega arith
written_few false w rows = omega (arith, length-take (capacity w) rows)

log_reads : (roll : Bool) (w : ℕ) (rows : List Row) (memory : List ℕ) (next : ℕ) (full : Bool)
    → LogStands roll w rows memory next full → LogReads roll w rows memory
log_reads roll w rows memory next full s =
    let h = positive_width w s.width in
    let f = some_fit w s.width in
    let whole = whole_rows w s.width in
    let ws : List Row = written roll w rows in
    let wide : Wide w ws = wide_written roll w rows s.wide in
    let len : length (bytes ws) ≡ w * length ws = length_bytes w ws wide in
    let r : Stands 2048 0 (bytes ws) memory next = stands_rows w (capacity w) 2048 h f whole ws memory next wide s.held s.place in
    record {
      size = r.size;
      kept = λ i j l k b.
          let in_log = kept_written roll w rows i l k in
          let p : w * (i + 1) ≤ w * length ws = mul-le-mul_left w (omega (arith, in_log.0)) in
          let q : w * length ws ≤ w * (i + capacity w) = mul-le-mul_left w in_log.1 in
          let at : (w * i + j) % 2048 ≡ offset w i + j = rw whole at (place_byte w (capacity w) i j f b) in
          (rw at at (r.latest (w * i + j) (omega arith) (omega arith)))
          ∙ get_or-bytes w ws i j wide in_log.0 b
          ∙ ap (λ (row : Row). get_or (bytes_of row) j 0) in_log.2;
      unwritten = λ k low high.
          let q : w * length ws ≤ w * length rows = mul-le-mul_left w (written_few roll w rows) in
          r.unwritten k (omega arith) high;
    }

-- One more row, as a call leaves it.
module _ (w : ℕ) (rows : List Row) (row : Row) (memory memory' : List ℕ) (next next' : ℕ) (full full' : Bool) (e : width_of row ≡ w) where
  -- The row is written, after rows that are all in the log.
  row_written : (roll : Bool) → written roll w rows ≡ rows → written roll w (rows ++ row ∷ []) ≡ rows ++ row ∷ []
      → memory' ≡ stored_all memory next (bytes_of row) → next' ≡ advanced_all (length memory) next (bytes_of row) → full' ≡ full_after full next'
      → LogStands roll w rows memory next full → LogStands roll w (rows ++ row ∷ []) memory' next' full'
  row_written roll all more put up mark s =
      let h = positive_width w s.width in
      let f = some_fit w s.width in
      let whole = whole_rows w s.width in
      let held : memory ≡ ring_of 2048 0 (bytes rows) = rw all at s.held in
      let place : next ≡ offset w (length rows) = rw all at s.place in
      let after : next' ≡ offset w (length (rows ++ row ∷ [])) = place_more w (capacity w) 2048 h f whole rows row memory memory' next next' s.wide e held place put up in
      record {
        width = s.width;
        wide = All-push (λ r. width_of r ≡ w) rows row s.wide e;
        held = rw more (held_more w (capacity w) 2048 h f whole rows row memory memory' next next' s.wide e held place put up);
        place = rw more after;
        mark = rw (length_push rows row)
            (mark_more w (capacity w) 2048 h f whole (length rows) next' full full' s.mark (rw (length_push rows row) at after) mark);
      }

  -- The row is dropped, after as many rows as fit.
  row_dropped : capacity w ≤ length rows → memory' ≡ memory → next' ≡ next → full' ≡ full_after full next'
      → LogStands false w rows memory next full → LogStands false w (rows ++ row ∷ []) memory' next' full'
  row_dropped l kept same mark s =
      let cut = take-append-le (capacity w) rows (row ∷ []) l in
      record {
        width = s.width;
        wide = All-push (λ r. width_of r ≡ w) rows row s.wide e;
        held = rw (cut, kept) s.held;
        place = rw (cut, same) s.place;
        mark = mark ∙ rw (s.mark, le-leb (capacity w) (length rows) l, le-leb (capacity w) (length (rows ++ row ∷ [])) (omega (arith, length_push rows row)));
      }

  row_stopped : (length rows < capacity w) ⊎ (capacity w ≤ length rows)
      → memory' ≡ stored_row false full memory next row → next' ≡ next_row false full (length memory) next row → full' ≡ full_after full next'
      → LogStands false w rows memory next full → LogStands false w (rows ++ row ∷ []) memory' next' full'
  row_stopped (inl l) put up mark s =
      let room : full ≡ false = s.mark ∙ lt-leb (capacity w) (length rows) l in
      row_written false (take_all (capacity w) rows (omega arith)) (take_all (capacity w) (rows ++ row ∷ []) (omega (arith, length_push rows row)))
      (rw room at put) (rw room at up) mark s
  row_stopped (inr l) put up mark s =
      let shut : full ≡ true = s.mark ∙ le-leb (capacity w) (length rows) l in
      row_dropped l (rw shut at put) (rw shut at up) mark s

  pub row_after : (roll : Bool)
      → memory' ≡ stored_row roll full memory next row → next' ≡ next_row roll full (length memory) next row → full' ≡ full_after full next'
      → LogStands roll w rows memory next full → LogStands roll w (rows ++ row ∷ []) memory' next' full'
  row_after true put up mark s = row_written true refl refl put up mark s
  row_after false put up mark s = row_stopped (cases_lt (length rows) (capacity w)) put up mark s

  pub row_reads : (roll : Bool)
      → memory' ≡ stored_row roll full memory next row → next' ≡ next_row roll full (length memory) next row → full' ≡ full_after full next'
      → LogStands roll w rows memory next full → LogReads roll w (rows ++ row ∷ []) memory'
  row_reads roll put up mark s = log_reads roll w (rows ++ row ∷ []) memory' next' full' (row_after roll put up mark s)
