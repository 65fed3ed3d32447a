-- The record of a history, and of the history with one more set.
use Rattle.std.proofs.Common.{◌≡◌, ℕ, ◌*◌, ◌≤◌, Bool, true, leb, List, [], ◌∷◌, ◌++◌, length, replicate, sym, refl, ap, ◌∙◌, subst}
use Rattle.std.proofs.lemmas.List.{length-map, length-replicate}
use Rattle.alarm.specs.Held.{Held}
use Rattle.memory.specs.Logs.{used_of, used_by}
use Rattle.memory.proofs.Laws.{used_law}
use Rattle.mission.specs.Channels.{any_on}
use Rattle.record.specs.Sets.{SampleSet, Rules, row_for, width_by, temperature_is_low, temperature_is_high, one_is_low, one_is_high}
use Rattle.record.specs.Contents.{Contents, empty_over, cleared}
use Rattle.record.specs.Histories.{Reads, record_of, rows_of, temperature_bin, one_bin}
use Rattle.record.specs.Taking.{taken, temperature_counts}
use Rattle.record.proofs.Rows.{lawful_width}
use Rattle.record.proofs.Logged.{memory_none, place_none, mark_none, mark, log_stands, log_stands_more, reads_more}
use Rattle.record.proofs.Counted.{count_more, stamp_more, channel_more, channel_none, counts_if_on, side_more}

-- Contents are equal field by field.
module _ {c c' : ℕ} {s s' : List ℕ} {n n' : ℕ} {f f' : Bool} {m m' ts ts' vs vs' : List ℕ} {tl tl' th th' ol ol' oh oh' : Held} where
  pub same : c ≡ c' → s ≡ s' → n ≡ n' → f ≡ f' → m ≡ m' → ts ≡ ts' → vs ≡ vs' → tl ≡ tl' → th ≡ th' → ol ≡ ol' → oh ≡ oh'
      → ◌≡◌ {A = Contents}
      (record {
        current = c;
        stamp = s;
        next = n;
        full = f;
        memory = m;
        temperatures = ts;
        voltages = vs;
        temperature_low = tl;
        temperature_high = th;
        one_low = ol;
        one_high = oh;
      })
      (record {
        current = c';
        stamp = s';
        next = n';
        full = f';
        memory = m';
        temperatures = ts';
        voltages = vs';
        temperature_low = tl';
        temperature_high = th';
        one_low = ol';
        one_high = oh';
      })
  same a b c d e f g h i j k = cc

-- A record of no set, over a blank log, is the record of the empty history, whatever the rules.
pub empty_is_none : (p : Rules) (memory : List ℕ) → length memory ≡ 2048 → memory ≡ replicate (length memory) 0 → empty_over memory ≡ record_of p []
empty_is_none p memory size blank =
    same refl refl (sym (place_none p.roll_over (width_by p))) (sym (mark_none (width_by p)))
    (memory_none p.roll_over (width_by p) memory size blank)
    (sym (channel_none p.channels.temperature temperature_bin 63)) (sym (channel_none p.channels.one one_bin 64))
    refl refl refl refl

-- So contents of no set stand for the empty history.
pub starts : {k : Contents} (p : Rules) (memory : List ℕ) → length memory ≡ 2048 → memory ≡ replicate (length memory) 0 → k ≡ empty_over memory → k ≡ record_of p []
starts p memory size blank e = e ∙ empty_is_none p memory size blank

-- A clear leaves the record of the empty history.
pub cleared_is_none : (p : Rules) (size : ℕ) → size ≡ 2048 → cleared size ≡ record_of p []
cleared_is_none p size e =
    empty_is_none p (replicate size 0) (length-replicate size 0 ∙ e) (ap (λ (n : ℕ). replicate n 0) (sym (length-replicate size 0)))

pub record_none : (p : Rules) → record_of p [] ≡ cleared 2048
record_none p = sym (cleared_is_none p 2048 refl)

-- One more set.
pub record_more : (p : Rules) (sets : List SampleSet) (s : SampleSet) → any_on p.channels ≡ true → s.codes.temperature ≤ 250
    → taken p (record_of p sets) s ≡ record_of p (sets ++ s ∷ [])
record_more p sets s h low =
    let log = log_stands_more p h sets s in
    let full : (taken p (record_of p sets) s).full ≡ leb 2048 (width_by p * length (sets ++ s ∷ []))
    = log.mark ∙ rw (length-map (sets ++ s ∷ []) (row_for p))
    (sym (mark (width_by p) (length (sets ++ s ∷ [])) (lawful_width p.channels h))) in
    same (count_more sets s) (stamp_more sets s) log.place full log.held
    (channel_more p.channels.temperature (temperature_counts p s) temperature_bin 63 sets s
    (counts_if_on p.channels.temperature s.codes.temperature low))
    (channel_more p.channels.one p.channels.one one_bin 64 sets s refl)
    (side_more 6 (temperature_is_low p) sets s) (side_more 6 (temperature_is_high p) sets s)
    (side_more 6 (one_is_low p) sets s) (side_more 6 (one_is_high p) sets s)

-- So contents that follow the history follow it with one more set.
pub follows : {before after : Contents} (p : Rules) (sets : List SampleSet) (s : SampleSet) → any_on p.channels ≡ true → s.codes.temperature ≤ 250
    → before ≡ record_of p sets → after ≡ taken p before s → after ≡ record_of p (sets ++ s ∷ [])
follows p sets s h low stands step = step ∙ ap (λ (k : Contents). taken p k s) stands ∙ record_more p sets s h low

-- And a reader of the log finds the rows of all those sets.
pub reads_follow : {before : Contents} {memory : List ℕ} (p : Rules) (sets : List SampleSet) (s : SampleSet) → any_on p.channels ≡ true
    → before ≡ record_of p sets → memory ≡ (taken p before s).memory → Reads p (sets ++ s ∷ []) memory
reads_follow p sets s h stands step =
    subst (Reads p (sets ++ s ∷ [])) (sym (step ∙ ap (λ (k : Contents). (taken p k s).memory) stands)) (reads_more p h sets s)

-- How much of the log the rows of the history use.
pub used : {k : Contents} (p : Rules) (sets : List SampleSet) → any_on p.channels ≡ true
    → k ≡ record_of p sets → used_of k.next k.full ≡ used_by (width_by p) (length sets)
used p sets h stands =
    ap (λ (k : Contents). used_of k.next k.full) stands
    ∙ used_law p.roll_over (width_by p) (rows_of p sets) _ _ _ (log_stands p h sets)
    ∙ ap (used_by (width_by p)) (length-map sets (row_for p))
