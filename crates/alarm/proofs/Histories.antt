-- One more set at or past the limit: what it does to the pieces of a history.
use Rattle.std.proofs.Common.{◌≡◌, ℕ, suc, ◌+◌, ◌-◌, ◌*◌, ◌/◌, ◌<◌, ◌≤◌, Bool, true, false, ltb, ◌⊎◌, List, [], ◌∷◌, ◌++◌, map, length, sym, ap, ◌∙◌, inl, inr, arith}
use Rattle.std.specs.List.{range_with_len, flat_map}
use Rattle.std.proofs.lemmas.List.{append_assoc, flat_map_more, length_push, get_or_push}
use Rattle.std.proofs.lemmas.Bool.{lt-ltb, le-ltb, cases_lt, cases_Bool}
use Rattle.alarm.specs.declared.record.AlarmRecord.{AlarmRecord}
use Rattle.alarm.specs.Pieces.{Stretch, stretches, stamp_of, piece, cut, pieces, blank, last_length}
use Rattle.alarm.specs.Held.{longer, newest_past, unfinished}
use Rattle.alarm.proofs.Stretching.{newest_is, stretch_begins, stretch_grows}
use Rattle.alarm.proofs.Cutting.{cut_last, cut_grows, cut_begins}

last_length_push : (rs : List AlarmRecord) (r : AlarmRecord) → last_length (rs ++ r ∷ []) (length (rs ++ r ∷ [])) ≡ r.length
last_length_push rs r =
    let at : length rs ≡ length (rs ++ r ∷ []) - 1 = omega (arith, length_push rs r) in
    ap (λ (q : AlarmRecord). q.length) (get_or_push rs r blank (length (rs ++ r ∷ []) - 1) at)

-- The last piece is shorter than 255 sets and grows, or a piece begins with the new set.
pub data Newer (before after : List AlarmRecord) (going : Bool) (stamp : ℕ) : Type 0 where
  grows : (others : List AlarmRecord) (last : AlarmRecord) → before ≡ others ++ last ∷ [] → after ≡ others ++ longer last ∷ []
      → going ≡ true → Newer before after going stamp
  begins : after ≡ before ++ record { stamp = stamp; length = 1 } ∷ [] → going ≡ false → Newer before after going stamp

pieces_push : (ss : List Stretch) (s : Stretch) → flat_map cut (ss ++ s ∷ []) ≡ flat_map cut ss ++ cut s
pieces_push ss s = sym (flat_map_more cut [] ss s)

-- Whether the last of the pieces is shorter than 255 sets.
abbrev pub short : List AlarmRecord → Bool
short rs = ltb (last_length rs (length rs)) 255

pub short_push : (rs others : List AlarmRecord) (r : AlarmRecord) (b : Bool) → rs ≡ others ++ r ∷ [] → ltb r.length 255 ≡ b → short rs ≡ b
short_push rs others r b e h = ap short e ∙ ap (λ (n : ℕ). ltb n 255) (last_length_push others r) ∙ h

-- A last stretch of l sets, whose last piece has the number k.
module _ (ss : List Stretch) (f l k : ℕ) (low : 255 * k < l) (high : l ≤ 255 * k + 255) where
  abbrev last : AlarmRecord
  last = piece (record { first = f; sets = l }) k

  abbrev others : List AlarmRecord
  others = flat_map cut ss ++ map (piece (record { first = f; sets = l })) (range_with_len 0 k)

  abbrev before : List AlarmRecord
  before = flat_map cut (ss ++ record { first = f; sets = l } ∷ [])

  abbrev after : List AlarmRecord
  after = flat_map cut (ss ++ record { first = f; sets = suc l } ∷ [])

  were : before ≡ others ++ last ∷ []
  were = pieces_push ss (record { first = f; sets = l }) ∙ rw (cut_last (record { first = f; sets = l }) k low high, append_assoc)

  one_more : (l < 255 * k + 255) ⊎ (255 * k + 255 ≤ l) → Newer before after (short before) (stamp_of (f + l))
  one_more (inl room) =
      let are : after ≡ others ++ longer last ∷ []
      = pieces_push ss (record { first = f; sets = suc l }) ∙ rw (cut_grows f l k low room, append_assoc) in
      grows others last were are (short_push before others last true were (lt-ltb last.length 255 (omega arith)))
  one_more (inr full) =
      let are : after ≡ before ++ record { stamp = stamp_of (f + l); length = 1 } ∷ []
      = pieces_push ss (record { first = f; sets = suc l }) ∙ rw (cut_begins f l k (omega arith), pieces_push, append_assoc) in
      begins are (short_push before others last false were (le-ltb last.length 255 (omega arith)))

-- After a set within the limit, or at the start, a piece begins.
outside : (sets : List Bool) → newest_past sets ≡ false → Newer (pieces sets) (pieces (sets ++ true ∷ [])) (unfinished sets) (stamp_of (length sets + 1))
outside sets h =
    let number : 1 + length sets + 255 * 0 ≡ length sets + 1 = omega arith in
    begins
    (ap (flat_map cut) (stretch_begins 1 false sets (sym (newest_is sets) ∙ h)) ∙ pieces_push (stretches sets) (record { first = 1 + length sets; sets = 1 }) ∙ rw number)
    (rw h)

-- After a set at or past the limit, the last stretch is one longer.
inside : (sets : List Bool) → newest_past sets ≡ true → Newer (pieces sets) (pieces (sets ++ true ∷ [])) (unfinished sets) (stamp_of (length sets + 1))
inside sets h =
    let g = stretch_grows 1 sets (sym (newest_is sets) ∙ h) in
    let l : ℕ = suc g.more in
    let k : ℕ = g.more / 255 in
    let number : g.first + l ≡ length sets + 1 = omega (arith, g.reaches) in
    rw (h, g.was, g.is, ← number) (one_more g.others g.first l k (omega arith) (omega arith) (cases_lt l (255 * k + 255)))

pub newer : (sets : List Bool) → Newer (pieces sets) (pieces (sets ++ true ∷ [])) (unfinished sets) (stamp_of (length sets + 1))
newer sets = elim (cases_Bool (newest_past sets)) [ inl h ↦ inside sets h | inr h ↦ outside sets h ]
