-- What reads and writes have to do with one another.
use Rattle.std.specs.Prelude.{◌≡◌, ℕ, Bool, true, ◌||◌, ◌≢◌}
use Rattle.registers.specs.Contents.{Contents}
use Rattle.registers.specs.Reading.{shown, within}

-- The registers that take and keep every bit of a byte: all that can be written but Control 2, Status 1 and Status 2.
abbrev pub keeps_bytes : ℕ → Bool
keeps_bytes address =
    within 0x00 0x06 address
    || (within 0x0B 0x0E address
    || (within 0x12 0x13 address
    || (within 0x23 0x28 address || within 0x40 0x5F address)))

-- A register that keeps bytes shows the value.
abbrev pub ReadsBack : ℕ → ℕ → Contents → Type 0
ReadsBack address value c = keeps_bytes address ≡ true → (running : Bool) → shown c running address ≡ value

-- Every register but the one at an address shows what it showed before.
abbrev pub OthersShow : ℕ → Contents → Contents → Type 0
OthersShow address before after =
    (other : ℕ) → (other ≢ address) → (running : Bool) → shown after running other ≡ shown before running other
