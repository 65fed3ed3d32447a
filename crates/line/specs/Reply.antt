-- What a line means, and what opening, putting and closing make of it.
use Rattle.std.specs.Prelude.{◌≡◌, ℕ, ◌<◌, ◌≤◌, Bool, true, false, cond, ◌||◌, List, [], ◌∷◌, ◌++◌, length, Ok, Err, Result, nat_le, nat_lt, slice_index}
use Rattle.refusal.specs.declared.refusal.Refusal.{Refusal}
use Rattle.refusal.specs.declared.refusal.Refusal.TheVariants.{LineFull}

-- the data bytes of the reply, in order, and whether the reply waits
pub record Reply : Type 0 where
  pub bytes : List ℕ
  pub waits : Bool

abbrev pub reply : List ℕ → Bool → Reply
reply bytes waits = record { bytes = bytes; waits = waits }

-- nothing is held
abbrev pub emptied : Reply
emptied = reply [] false

-- each of these numbers is a byte
abbrev pub Bytes : List ℕ → Type 0
Bytes xs = (i : ℕ) → slice_index xs i < 256

-- a reply has at most 32 data bytes, and one that waits has some
abbrev pub Sound : Reply → Type 0
Sound m = Bytes m.bytes × (length m.bytes ≤ 32) × (m.waits ≡ true → 0 < length m.bytes)

-- a line takes no byte where its reply waits or has 32
abbrev pub full : Reply → Bool
full m = m.waits || nat_le 32 (length m.bytes)

abbrev pub put_answer : Reply → Result (Unit {0}) Refusal
put_answer m = cond (full m) (Err LineFull) (Ok tt)

-- a byte that is taken comes behind the others
abbrev pub put_after : Reply → ℕ → Reply
put_after m byte = cond (full m) m (reply (m.bytes ++ byte ∷ []) false)

-- bytes that were put wait from now on
abbrev pub close_after : Reply → Reply
close_after m = cond (nat_lt 0 (length m.bytes)) (reply m.bytes true) m
