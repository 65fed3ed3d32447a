-- The bins of every model that a run reaches add up to its sets.
use Rattle.std.proofs.Common.{ℕ, ◌<◌, Bool, true, false, List, [], ◌∷◌, length, sym, subst, arith}
use Rattle.std.specs.List.{AllByRecursion}
use Rattle.std.proofs.ByRecursion.{All-push, All-weaker}
use Rattle.std.proofs.lemmas.Bool.{false≢true, ltb-false}
use Rattle.histogram.proofs.Counts.{sum_bins}
use Rattle.record.specs.Histories.{bins_of, temperature_bin, one_bin}
use Rattle.record.specs.Sets.{SampleSet}
use Rattle.model.specs.declared.calls.Call.{Call}
use Rattle.model.specs.Fits.{Narrow}
use Rattle.model.specs.Laws.{AddUp, BinsAddUp}
use Rattle.model.specs.Model.{Model, fresh}
use Rattle.model.specs.Runs.{after, ends}
use Rattle.model.proofs.Effects.{Brought, Did, kept, took, wiped, sent, gave, did}

-- The codes of a set lie in the bins of their kinds.
abbrev Placed : SampleSet → Type 0
Placed s = (temperature_bin s < 63) × (one_bin s < 64)

brought_placed : (c : Call) (s : SampleSet) → Brought c s → Narrow c → Placed s
brought_placed c s b narrow =
    let byte : s.codes.one < 256 = subst Narrow b.arrives narrow in
    let cool = ltb-false 250 s.codes.temperature b.accepted in
    (omega arith, omega arith)

did_placed : (m : Model) (c : Call) (x : Model) → Did m c x → Narrow c → AllByRecursion Placed m.sets → AllByRecursion Placed x.sets
did_placed m c x (kept k) narrow all = subst (AllByRecursion Placed) (sym k.sets) all
did_placed m c x (took s brought sets made line) narrow all =
    subst (AllByRecursion Placed) (sym sets) (All-push Placed m.sets s all (brought_placed c s brought narrow))
did_placed m c x (wiped sets made line) narrow all = subst (AllByRecursion Placed) (sym sets) tt
did_placed m c x (sent sets made s) narrow all = subst (AllByRecursion Placed) (sym sets) all
did_placed m c x (gave sets made line) narrow all = subst (AllByRecursion Placed) (sym sets) all

module _ (wire : List ℕ → List ℕ) where
  ends_placed : (m : Model) (cs : List Call) → AllByRecursion Narrow cs → AllByRecursion Placed m.sets → AllByRecursion Placed (ends wire m cs).sets
  ends_placed m [] narrow all = all
  ends_placed m (c ∷ cs) narrow all =
      ends_placed (after wire m c) cs narrow.1 (did_placed m c (after wire m c) (did wire m c) narrow.0 all)

add_up : (on : Bool) (place : SampleSet → ℕ) (n : ℕ) (sets : List SampleSet) → AllByRecursion (λ s. place s < n) sets
    → AddUp on n (bins_of on place n sets) (length sets)
add_up true place n sets within on room = sum_bins place n sets within room
add_up false place n sets within on room = absurd (false≢true on)

-- Every run keeps the law of bins, since the voltage codes of its calls are bytes.
pub bins_add_up : (wire : List ℕ → List ℕ) (serial : List ℕ) (cs : List Call) → AllByRecursion Narrow cs → BinsAddUp (ends wire (fresh serial) cs)
bins_add_up wire serial cs narrow =
    let m = ends wire (fresh serial) cs in
    let all : AllByRecursion Placed m.sets = ends_placed wire (fresh serial) cs narrow tt in
    record {
      temperature = add_up m.plan.rules.channels.temperature temperature_bin 63 m.sets (All-weaker Placed _ (λ s p. p.0) m.sets all);
      one = add_up m.plan.rules.channels.one one_bin 64 m.sets (All-weaker Placed _ (λ s p. p.1) m.sets all);
    }
