-- Rows of one width, laid out byte after byte, and the place of each byte in a store of w × fit bytes.
use Rattle.std.proofs.Common.{◌≡◌, ℕ, zero, suc, ◌+◌, ◌*◌, ◌%◌, ◌<◌, List, [], ◌∷◌, ◌++◌, length, get_or, sym, ap, ◌∙◌, add-zero, mul_comm, mul-zero, arith, length-append, get_or-append-add}
use lib.Arith.{mod-mul}
use lib.ListN.{get_or-append}
use Rattle.std.specs.List.{flat_map}
use Rattle.std.proofs.lemmas.List.{flat_map_more}
use Rattle.std.proofs.lemmas.Nat.{div-mul-add, mod-mul-add}
use Rattle.memory.specs.declared.row.Row.{Row}
use Rattle.memory.specs.Rows.{bytes_of}
use Rattle.memory.specs.Logs.{Wide, row_byte}

abbrev pub bytes : List Row → List ℕ
bytes rows = flat_map bytes_of rows

pub length_bytes : (w : ℕ) (rows : List Row) → Wide w rows → length (bytes rows) ≡ w * length rows
length_bytes w [] a = sym (mul-zero w)
length_bytes w (row ∷ rows) a = omega (arith, length-append (bytes_of row) (bytes rows), length_bytes w rows a.1, a.0)

pub get_or-bytes : (w : ℕ) (rows : List Row) (i j : ℕ) → Wide w rows → i < length rows → j < w → get_or (bytes rows) (w * i + j) 0 ≡ row_byte rows i j
get_or-bytes w [] i j a h k = absurd (omega arith)
get_or-bytes w (row ∷ rows) zero j a h k =
    let e : w * 0 + j ≡ j = omega arith in
    rw e (get_or-append (bytes_of row) (bytes rows) 0 j (omega (arith, a.0)))
get_or-bytes w (row ∷ rows) (suc i) j a h k =
    let e : w * suc i + j ≡ length (bytes_of row) + (w * i + j) = omega (arith, a.0) in
    rw (e, get_or-append-add (bytes_of row) (bytes rows) (w * i + j) 0) (get_or-bytes w rows i j a.1 (omega arith) k)

pub bytes_push : (rows : List Row) (row : Row) → bytes (rows ++ row ∷ []) ≡ bytes rows ++ bytes_of row
bytes_push rows row = sym (flat_map_more bytes_of [] rows row)

-- The place of byte j of row i.
pub place_byte : (w fit i j : ℕ) → 0 < fit → j < w → (w * i + j) % (w * fit) ≡ w * (i % fit) + j
place_byte w fit i j f h =
    rw (mul_comm w fit, mul_comm w i, mul_comm w (i % fit), mod-mul (i * w + j) {m = fit} {c = w} f (omega arith), div-mul-add i w j h, mod-mul-add i w j h)

pub place_row : (w fit n : ℕ) → 0 < w → 0 < fit → (w * n) % (w * fit) ≡ w * (n % fit)
place_row w fit n h f = ap (λ (k : ℕ). k % (w * fit)) (sym (add-zero (w * n))) ∙ place_byte w fit n 0 f h ∙ add-zero (w * (n % fit))
