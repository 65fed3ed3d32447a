-- The journal's laws, from those of the roll-over store.
use Rattle.std.proofs.Common.{◌≡◌, ℕ, List, [], ◌∷◌, ◌++◌, length, replicate, refl, lit<}
use Rattle.ring.specs.History.{Stands}
use Rattle.ring.specs.Steps.{stored, advanced}
use Rattle.ring.proofs.Rings.{stands_after}
use Rattle.memory.specs.declared.event.JournalEntry.{JournalEntry}
use Rattle.memory.specs.Events.{JournalStands, blank_entry}
use Rattle.memory.proofs.Stores.{stands_by, held_by, held_first}

pub no_event : (memory : List JournalEntry) → length memory ≡ 16 → memory ≡ replicate (length memory) blank_entry → JournalStands [] memory 0
no_event memory size blank = record { held = held_first 16 blank_entry memory size blank; place = refl }

module _ (events memory memory' : List JournalEntry) (next next' : ℕ) (entry : JournalEntry)
    (put : memory' ≡ stored memory next entry) (up : next' ≡ advanced (length memory) next) (s : JournalStands events memory next) where
  pub event_read : Stands 16 blank_entry (events ++ entry ∷ []) memory' next'
  event_read = stands_after 16 blank_entry (lit< tt) events memory memory' next next' entry put up
      (stands_by 16 blank_entry events memory next (lit< tt) s.held s.place)

  pub event_noted : JournalStands (events ++ entry ∷ []) memory' next'
  event_noted = record {
    held = held_by 16 blank_entry (events ++ entry ∷ []) memory' next' (lit< tt) event_read;
    place = event_read.place;
  }
