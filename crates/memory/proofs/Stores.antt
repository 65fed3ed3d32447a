-- The roll-over store by equations: its memory is the one written out for its history, and its place the next.
use Rattle.std.proofs.Common.{◌≡◌, ℕ, ◌%◌, ◌<◌, List, [], length, replicate, sym, ◌∙◌}
use Rattle.ring.specs.History.{Stands, ring_of}
use Rattle.ring.proofs.Rings.{ring_of_stands, no_other_stands, blank_at_first}

module _ {X : Type 0} (c : ℕ) (blank : X) where
  pub stands_by : (entries memory : List X) (next : ℕ) → 0 < c
      → memory ≡ ring_of c blank entries → next ≡ length entries % c → Stands c blank entries memory next
  stands_by entries memory next pos e f = rw (e, f) (ring_of_stands c blank pos entries)

  pub held_by : (entries memory : List X) (next : ℕ) → 0 < c → Stands c blank entries memory next → memory ≡ ring_of c blank entries
  held_by entries memory next pos s = no_other_stands X c blank entries memory next pos s

  pub held_first : (memory : List X) → length memory ≡ c → memory ≡ replicate (length memory) blank → memory ≡ ring_of c blank []
  held_first memory size e = (rw size at e) ∙ sym (blank_at_first X c blank)
