-- Which calls can be performed: those whose memories can be lent. And what the type of a call says of its codes.
use Rattle.std.specs.Prelude.{ℕ, ◌<◌, Bool, true, ◌&&◌, ◌||◌, List, [], ◌∷◌, length, ◌==◌, nat_le}
use Rattle.memory.specs.Serving.{serves}
use Rattle.model.specs.declared.calls.Action.TheVariants.{Byte, Second, Press}
use Rattle.model.specs.declared.calls.Call.{Call}
use Rattle.model.specs.declared.calls.Call.TheVariants.{Lent, Gap, Collect}

-- Memories of these lengths can be lent: the recorder's own, or the fronts of spare ones that are long enough.
abbrev pub lendable : ℕ → ℕ → ℕ → ℕ → Bool
lendable spare_log spare_journal log journal = serves log journal || (nat_le log spare_log && nat_le journal spare_journal)

-- A call can be performed with spare memories of these lengths. A buffer of 80 bytes holds every reply.
abbrev pub fits : ℕ → ℕ → Call → Bool
fits spare_log spare_journal (Lent log journal action) = lendable spare_log spare_journal log journal
fits spare_log spare_journal Gap = true
fits spare_log spare_journal (Collect room) = nat_le room 80

abbrev pub all_fit : ℕ → ℕ → List Call → Bool
all_fit spare_log spare_journal [] = true
all_fit spare_log spare_journal (c ∷ cs) = fits spare_log spare_journal c && all_fit spare_log spare_journal cs

-- The voltage code of channel 1 that a call brings is a byte.
abbrev pub Narrow : Call → Type 0
Narrow (Lent log journal (Byte byte)) = Unit {0}
Narrow (Lent log journal (Second codes)) = codes.one < 256
Narrow (Lent log journal Press) = Unit {0}
Narrow Gap = Unit {0}
Narrow (Collect room) = Unit {0}

-- A run can be performed: there is a place for each outcome, each call can be performed, and the recorder's own memories can serve.
abbrev pub runnable : List Call → ℕ → ℕ → ℕ → ℕ → ℕ → Bool
runnable cs notes spare_log spare_journal log journal =
    (notes == length cs) && (all_fit spare_log spare_journal cs && serves log journal)
