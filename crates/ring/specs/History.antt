-- What a roll-over store of c places stands for: the history of all its entries, oldest first and numbered from 0.
use Rattle.std.specs.Prelude.{◌≡◌, ℕ, ◌+◌, ◌-◌, ◌*◌, ◌/◌, ◌%◌, ◌<◌, ◌≤◌, List, [], map, length, get_or, replicate, slice_index_or}
use Rattle.std.specs.List.{range_with_len}

-- The store stands for the history: each of the last c entries, number j, is at place j mod c, a place with no entry
-- yet is blank, and the next entry goes to the place that its own number gives.
pub record Stands {X : Type 0} (c : ℕ) (blank : X) (entries memory : List X) (next : ℕ) : Type 0 where
  pub size : length memory ≡ c
  pub latest : (j : ℕ) → j < length entries → length entries ≤ j + c → slice_index_or memory (j % c) blank ≡ slice_index_or entries j blank
  pub unwritten : (p : ℕ) → length entries ≤ p → p < c → slice_index_or memory p blank ≡ blank
  pub place : next ≡ length entries % c

-- Of n entries, the latest one for place p: the largest number below n that leaves p when divided by c. It is p, so no
-- entry, where n is at most p.
abbrev pub latest_for : ℕ → ℕ → ℕ → ℕ
latest_for c n p = p + (n - 1 - p) / c * c

-- The memory that stands for a history, written out place by place.
unfoldable pub ring_of : {X : Type 0} → ℕ → X → List X → List X
ring_of c blank entries = map (λ p. get_or entries (latest_for c (length entries) p) blank) (range_with_len 0 c)

-- The written-out memory stands for its history.
abbrev pub WrittenOutStands : Type 0 → Type 0
WrittenOutStands X = (c : ℕ) (blank : X) (entries : List X) → 0 < c
    → Stands c blank entries (ring_of c blank entries) (length entries % c)

-- No other memory stands for that history.
abbrev pub NoOtherStands : Type 0 → Type 0
NoOtherStands X = (c : ℕ) (blank : X) (entries memory : List X) (next : ℕ) → 0 < c
    → Stands c blank entries memory next → memory ≡ ring_of c blank entries

-- With no entry yet, the memory is all blank.
abbrev pub BlankAtFirst : Type 0 → Type 0
BlankAtFirst X = (c : ℕ) (blank : X) → ring_of c blank [] ≡ replicate c blank

-- A blank memory, whose next entry goes to place 0, stands for the history with no entry.
abbrev pub BlankStands : Type 0 → Type 0
BlankStands X = (c : ℕ) (blank : X) (memory : List X) (next : ℕ) → 0 < c
    → memory ≡ replicate c blank → next ≡ 0 → Stands c blank [] memory next
