-- One more set of a stretch: what it does to the pieces that the stretch is cut into.
use Rattle.std.proofs.Common.{◌≡◌, ℕ, suc, ◌+◌, ◌-◌, ◌*◌, ◌/◌, ◌<◌, ◌≤◌, min, [], ◌∷◌, ◌++◌, map, ◌∙◌, arith}
use Rattle.std.specs.List.{range_with_len}
use Rattle.std.proofs.lemmas.List.FromFn.{length-map-range_with_len, get_or-map-range_with_len, map-range_with_len_more, fill_by_all}
use Rattle.alarm.specs.Pieces.{Stretch, stamp_of, piece, cut, blank}
use Rattle.alarm.specs.Held.{longer}

-- Where the last piece has the number k, the others stand before it.
pub cut_last : (s : Stretch) (k : ℕ) → 255 * k < s.sets → s.sets ≤ 255 * k + 255 → cut s ≡ map (piece s) (range_with_len 0 k) ++ piece s k ∷ []
cut_last s k low high =
    let pieces_are : (s.sets + 254) / 255 ≡ k + 1 = omega arith in
    rw pieces_are (map-range_with_len_more (piece s) 0 k k (omega arith))

-- One more set leaves the full pieces as they were.
full_pieces : (f l k : ℕ) → 255 * k ≤ l
    → map (piece (record { first = f; sets = suc l })) (range_with_len 0 k) ≡ map (piece (record { first = f; sets = l })) (range_with_len 0 k)
full_pieces f l k h =
    let more : Stretch = record { first = f; sets = suc l } in
    fill_by_all (piece (record { first = f; sets = l })) (map (piece more) (range_with_len 0 k)) k blank (length-map-range_with_len (piece more) 0 k)
    (λ j below.
    let same : min 255 (suc l - 255 * j) ≡ min 255 (l - 255 * j) = omega arith in
    get_or-map-range_with_len (piece more) 0 k j j blank below (omega arith) ∙ rw same)

-- A last piece that is not full is one set longer.
pub cut_grows : (f l k : ℕ) → 255 * k < l → l < 255 * k + 255
    → cut (record { first = f; sets = suc l })
    ≡ map (piece (record { first = f; sets = l })) (range_with_len 0 k) ++ longer (piece (record { first = f; sets = l }) k) ∷ []
cut_grows f l k low high =
    let grown : min 255 (suc l - 255 * k) ≡ min 255 (l - 255 * k) + 1 = omega arith in
    cut_last (record { first = f; sets = suc l }) k (omega arith) (omega arith) ∙ rw (full_pieces f l k (omega arith), grown)

-- After a full piece another begins.
pub cut_begins : (f l k : ℕ) → l ≡ 255 * k + 255
    → cut (record { first = f; sets = suc l }) ≡ cut (record { first = f; sets = l }) ++ record { stamp = stamp_of (f + l); length = 1 } ∷ []
cut_begins f l k full =
    let pieces_are : (l + 254) / 255 ≡ k + 1 = omega arith in
    let at : 255 * (k + 1) ≡ l = omega arith in
    let one : min 255 (suc l - l) ≡ 1 = omega arith in
    cut_last (record { first = f; sets = suc l }) (k + 1) (omega arith) (omega arith)
    ∙ rw (full_pieces f l (k + 1) (omega arith), pieces_are, at, one)
