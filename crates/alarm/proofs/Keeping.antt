-- One more set: what it does to the first m pieces, which a side holds.
use Rattle.std.proofs.Common.{◌≡◌, ℕ, suc, ◌+◌, ◌-◌, ◌<◌, ◌≤◌, Bool, true, false, ◌&&◌, ltb, leb, ◌⊎◌, List, [], ◌∷◌, ◌++◌, length, get_or, take, replicate, sym, refl, ap, ◌∙◌, inl, inr, arith}
use lib.Seq.{append_snoc}
use Rattle.std.proofs.Math.Bool.{and-true, and-false}
use Rattle.std.proofs.lemmas.List.{length_push, length-take-le, take_all, take-append-le, set_at, get_or_at}
use Rattle.std.proofs.lemmas.Bool.{lt-ltb, le-ltb, le-leb, lt-leb, cases_lt}
use Rattle.alarm.specs.declared.record.AlarmRecord.{AlarmRecord}
use Rattle.alarm.specs.Pieces.{stamp_of, pieces, blank, last_length}
use Rattle.alarm.specs.Held.{Held, padded, unfinished, newest_past, held_of, longer, grown, noted}
use Rattle.alarm.proofs.Stretching.{past_after_push, newest_is, stretches_end}
use Rattle.alarm.proofs.Histories.{short, short_push, Newer, grows, begins, newer}

-- What a side holds of the pieces `rs`, of which the last may be unfinished.
abbrev holds : ℕ → List AlarmRecord → Bool → Held
holds m rs going = record { records = padded m (take m rs); used = length (take m rs); growing = going && leb (length rs) m }

-- Where there is place for all pieces, they are held.
holds_all : (m : ℕ) (rs : List AlarmRecord) (going : Bool) → length rs ≤ m → holds m rs going ≡ record { records = padded m rs; used = length rs; growing = going }
holds_all m rs going h = rw (take_all m rs h, le-leb (length rs) m h, and-true going)

-- Of more than m pieces the first m are held, and none of them grows.
holds_first : (m : ℕ) (rs : List AlarmRecord) (r : AlarmRecord) (going : Bool) → m ≤ length rs
    → holds m (rs ++ r ∷ []) going ≡ record { records = padded m (take m rs); used = m; growing = false }
holds_first m rs r going h =
    let more : m < length (rs ++ r ∷ []) = omega (arith, length_push rs r) in
    rw (take-append-le m rs (r ∷ []) h, length-take-le m rs h, lt-leb (length (rs ++ r ∷ [])) m more, and-false going)

-- A full table keeps what it holds.
full_held : (m stamp : ℕ) (rs : List AlarmRecord) → let h : Held = record { records = rs; used = m; growing = false } in h ≡ noted m h stamp true
full_held m stamp rs = rw (le-ltb m m (omega arith))

-- The last piece grows: it is held, or it is not among the first m.
grown_at : (others zs : List AlarmRecord) (last : AlarmRecord) (n : ℕ) → n ≡ length others + 1
    → grown (record { records = others ++ last ∷ [] ++ zs; used = n; growing = true })
    ≡ record { records = others ++ longer last ∷ [] ++ zs; used = n; growing = ltb (last.length + 1) 255 }
grown_at others zs last n e =
    let at : length others ≡ n - 1 = omega arith in
    let read : get_or (others ++ last ∷ [] ++ zs) (n - 1) blank ≡ last = rw append_snoc (get_or_at others last zs blank (n - 1) at) in
    let size : last_length (others ++ last ∷ [] ++ zs) n ≡ last.length = ap (λ (q : AlarmRecord). q.length) read in
    rw (size, read, append_snoc others last zs, set_at others last zs (longer last) (n - 1) at, append_snoc others (longer last) zs)

grow_held : (m stamp : ℕ) (others : List AlarmRecord) (last : AlarmRecord) → (length others < m) ⊎ (m ≤ length others)
    → holds m (others ++ longer last ∷ []) (ltb (last.length + 1) 255) ≡ noted m (holds m (others ++ last ∷ []) true) stamp true
grow_held m stamp others last (inl h) =
    let before : length (others ++ last ∷ []) ≡ length others + 1 = length_push others last in
    let after : length (others ++ longer last ∷ []) ≡ length others + 1 = length_push others (longer last) in
    holds_all m (others ++ longer last ∷ []) (ltb (last.length + 1) 255) (omega arith)
    ∙ rw (after, before) (sym (grown_at others (replicate (m - (length others + 1)) blank) last (length others + 1) refl))
    ∙ sym (ap (λ (h : Held). noted m h stamp true) (holds_all m (others ++ last ∷ []) true (omega arith)))
grow_held m stamp others last (inr h) =
    holds_first m others (longer last) (ltb (last.length + 1) 255) h
    ∙ full_held m stamp (padded m (take m others))
    ∙ sym (ap (λ (h : Held). noted m h stamp true) (holds_first m others last true h))

-- A piece begins: there is place for it, or it is not among the first m.
holds_full : (m : ℕ) (rs : List AlarmRecord) → m ≤ length rs → holds m rs false ≡ record { records = padded m (take m rs); used = m; growing = false }
holds_full m rs h = rw (length-take-le m rs h)

begin_held : (m stamp : ℕ) (rs : List AlarmRecord) → (length rs < m) ⊎ (m ≤ length rs)
    → holds m (rs ++ record { stamp = stamp; length = 1 } ∷ []) true ≡ noted m (holds m rs false) stamp true
begin_held m stamp rs (inl h) =
    let r : AlarmRecord = record { stamp = stamp; length = 1 } in
    let after : length (rs ++ r ∷ []) ≡ length rs + 1 = length_push rs r in
    let place : m - length rs ≡ suc (m - (length rs + 1)) = omega arith in
    let zs : List AlarmRecord = replicate (m - (length rs + 1)) blank in
    holds_all m (rs ++ r ∷ []) true (omega arith)
    ∙ (rw (after, place, lt-ltb (length rs) m h, set_at rs blank zs r (length rs) refl, append_snoc rs r zs))
    ∙ sym (ap (λ (h : Held). noted m h stamp true) (holds_all m rs false (omega arith)))
begin_held m stamp rs (inr h) =
    holds_first m rs (record { stamp = stamp; length = 1 }) true h
    ∙ full_held m stamp (padded m (take m rs))
    ∙ sym (ap (λ (h : Held). noted m h stamp true) (holds_full m rs h))

-- The newest set of a history is the one just noted.
newest_push : (sets : List Bool) (past : Bool) → newest_past (sets ++ past ∷ []) ≡ past
newest_push sets past = newest_is (sets ++ past ∷ []) ∙ past_after_push false sets past

-- What a side holds, by its pieces.
held_as : (m : ℕ) (sets : List Bool) (rs : List AlarmRecord) (going : Bool) → pieces sets ≡ rs → unfinished sets ≡ going → held_of m sets ≡ holds m rs going
held_as m sets rs going e g = ap (λ (qs : List AlarmRecord). holds m qs (unfinished sets)) e ∙ ap (holds m rs) g

held_next : (m : ℕ) (sets : List Bool) (others : List AlarmRecord) (r : AlarmRecord) → pieces (sets ++ true ∷ []) ≡ others ++ r ∷ []
    → held_of m (sets ++ true ∷ []) ≡ holds m (others ++ r ∷ []) (ltb r.length 255)
held_next m sets others r e =
    held_as m (sets ++ true ∷ []) (others ++ r ∷ []) (ltb r.length 255) e
    (ap (λ (b : Bool). b && short (pieces (sets ++ true ∷ []))) (newest_push sets true) ∙ short_push (pieces (sets ++ true ∷ [])) others r (ltb r.length 255) e refl)

by_pieces : (m : ℕ) (sets : List Bool) → Newer (pieces sets) (pieces (sets ++ true ∷ [])) (unfinished sets) (stamp_of (length sets + 1))
    → held_of m (sets ++ true ∷ []) ≡ noted m (held_of m sets) (stamp_of (length sets + 1)) true
by_pieces m sets (grows others last was is going) =
    held_next m sets others (longer last) is
    ∙ grow_held m (stamp_of (length sets + 1)) others last (cases_lt (length others) m)
    ∙ sym (ap (λ (h : Held). noted m h (stamp_of (length sets + 1)) true) (held_as m sets (others ++ last ∷ []) true was going))
by_pieces m sets (begins is going) =
    held_next m sets (pieces sets) (record { stamp = stamp_of (length sets + 1); length = 1 }) is
    ∙ begin_held m (stamp_of (length sets + 1)) (pieces sets) (cases_lt (length (pieces sets)) m)
    ∙ sym (ap (λ (h : Held). noted m h (stamp_of (length sets + 1)) true) (held_as m sets (pieces sets) false refl going))

-- What a side holds after one more set is what it held, with that set noted.
pub steps : (m : ℕ) (sets : List Bool) (past : Bool) → held_of m (sets ++ past ∷ []) ≡ noted m (held_of m sets) (stamp_of (length sets + 1)) past
steps m sets false = rw (newest_push sets false, stretches_end 1 false sets)
steps m sets true = by_pieces m sets (newer sets)

-- So a table that steps with each set holds what the history says.
pub follows : {before after : Held} {stamp : ℕ} (m : ℕ) (sets : List Bool) (past : Bool) → before ≡ held_of m sets → stamp ≡ stamp_of (length sets + 1)
    → after ≡ noted m before stamp past → after ≡ held_of m (sets ++ past ∷ [])
follows {before} m sets past was at step =
    step
    ∙ ap (λ (n : ℕ). noted m before n past) at
    ∙ ap (λ (h : Held). noted m h (stamp_of (length sets + 1)) past) was
    ∙ sym (steps m sets past)
