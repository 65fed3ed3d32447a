-- Current, the stamp, the bins and the alarm records of a history: what one more set adds.
use Rattle.std.proofs.Common.{◌≡◌, ℕ, ◌+◌, ◌<◌, ◌≤◌, Bool, true, false, cond, ◌&&◌, eqb, leb, ◌⊎◌, List, [], ◌∷◌, ◌++◌, map, length, replicate, sym, refl, ◌∙◌, inl, inr, arith}
use Rattle.std.proofs.lemmas.List.FromFn.{length-map-range_with_len, get_or-map-range_with_len}
use Rattle.std.proofs.lemmas.List.{ext_get_or, length-map, length_push, map_push, set_past}
use Rattle.std.proofs.lemmas.List.Sums.{sum_by_push}
use Rattle.std.proofs.lemmas.Bool.{cases_lt, ne_eqb, le-leb}
use Rattle.alarm.specs.Held.{held_of, noted}
use Rattle.alarm.proofs.Keeping.{steps}
use Rattle.counter.specs.Counting.{counted}
use Rattle.histogram.specs.Bins.{bin_after, bins_after, raised}
use Rattle.histogram.proofs.Counts.{bins_none, bins_push}
use Rattle.record.specs.Sets.{SampleSet, stamp_at}
use Rattle.record.specs.Histories.{start_stamp, bins_of}

-- ---- Current

pub count_more : (sets : List SampleSet) (s : SampleSet) → counted (counted (length sets) + 1) ≡ counted (length (sets ++ s ∷ []))
count_more sets s = rw (length_push sets s) (omega arith)

-- ---- The stamp

pub stamp_more : (sets : List SampleSet) (s : SampleSet)
    → cond (eqb (counted (length sets)) 0) (stamp_at s.moment) (start_stamp sets) ≡ start_stamp (sets ++ s ∷ [])
stamp_more [] s = refl
stamp_more (first ∷ later) s = rw (ne_eqb (counted (length (first ∷ later))) 0 (λ e. omega arith))

-- ---- Bins

module _ {X : Type 0} (place : X → ℕ) (n : ℕ) where
  -- A reading past all bins is in none of them.
  past_bin : (readings : List X) (r : X) → n ≤ place r → (b : ℕ) → b < n → bin_after place readings b ≡ bin_after place (readings ++ r ∷ []) b
  past_bin readings r h b l =
      rw (sum_by_push (λ x. cond (eqb (place x) b) 1 0) readings r, ne_eqb (place r) b (λ e. omega arith)) (omega arith)

  past_bins : (readings : List X) (r : X) → n ≤ place r → bins_after place n readings ≡ bins_after place n (readings ++ r ∷ [])
  unfolding bins_after
  past_bins readings r h =
      let size = λ (readings : List X). length-map-range_with_len (bin_after place readings) 0 n in
      let at = λ (readings : List X) (b : ℕ) (l : b < n). get_or-map-range_with_len (bin_after place readings) 0 n b b 0 l (omega arith) in
      ext_get_or 0 _ _ (size readings ∙ sym (size (readings ++ r ∷ []))) (λ b l.
      let low : b < n = omega (arith, size readings) in
      at readings b low ∙ past_bin readings r h b low ∙ sym (at (readings ++ r ∷ []) b low))

  length_bins : (readings : List X) → length (bins_after place n readings) ≡ n
  unfolding bins_after
  length_bins readings = length-map-range_with_len (bin_after place readings) 0 n

  bins_by : (readings : List X) (r : X) → (place r < n) ⊎ (n ≤ place r)
      → raised (bins_after place n readings) (place r) ≡ bins_after place n (readings ++ r ∷ [])
  bins_by readings r (inl l) = bins_push place n readings r l
  bins_by readings r (inr h) =
      set_past (bins_after place n readings) (place r) _ (omega (arith, length_bins readings)) ∙ past_bins readings r h

  bins_more : (readings : List X) (r : X) → raised (bins_after place n readings) (place r) ≡ bins_after place n (readings ++ r ∷ [])
  bins_more readings r = bins_by readings r (cases_lt (place r) n)

-- The bins of a channel that is on count the set, and those of one that is off stay.
pub channel_more : (on counts : Bool) (place : SampleSet → ℕ) (n : ℕ) (sets : List SampleSet) (s : SampleSet) → counts ≡ on
    → cond counts (raised (bins_of on place n sets) (place s)) (bins_of on place n sets) ≡ bins_of on place n (sets ++ s ∷ [])
channel_more true counts place n sets s e = rw e (bins_more place n sets s)
channel_more false counts place n sets s e = rw e

pub channel_none : (on : Bool) (place : SampleSet → ℕ) (n : ℕ) → bins_of on place n [] ≡ replicate n 0
channel_none true place n = sym (bins_none place n)
channel_none false place n = refl

-- A temperature that is on counts, if its code is at most 250.
pub counts_if_on : (on : Bool) (code : ℕ) → code ≤ 250 → (on && leb code 250) ≡ on
counts_if_on true code h = le-leb code 250 h
counts_if_on false code h = refl

-- ---- Alarm records

pub side_more : (m : ℕ) (past : SampleSet → Bool) (sets : List SampleSet) (s : SampleSet)
    → noted m (held_of m (map past sets)) (counted (counted (length sets) + 1)) (past s) ≡ held_of m (map past (sets ++ s ∷ []))
side_more m past sets s =
    let number : counted (counted (length sets) + 1) ≡ counted (length (map past sets) + 1) = rw (length-map sets past) (omega arith) in
    rw (map_push past sets s, number) (sym (steps m (map past sets) (past s)))
