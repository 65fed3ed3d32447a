-- What the registers of the limits show after a write of one of them.
use Rattle.std.proofs.Common.{◌≡◌, ℕ, true, ◌||◌, arith}
use Rattle.std.proofs.lemmas.Bool.Decides.{nat_tests}
use Rattle.mission.specs.PerChannel.{Limits}
use Rattle.registers.specs.Limiting.{limit_at, limits_with}
use Rattle.registers.specs.Reading.{within}

-- The limit that was written shows the value.
pub limits_back :
    (limits : Limits) (address value : ℕ) → (within 0x0B 0x0C address || within 0x23 0x28 address) ≡ true
    → limit_at (limits_with limits address value) address ≡ value
limits_back limits address value at = grind (arith, nat_tests)

-- The other limits show what they showed.
pub limits_others :
    (limits : Limits) (address value other : ℕ) → (other ≡ address → ⊥)
    → limit_at (limits_with limits address value) other ≡ limit_at limits other
limits_others limits address value other ne = grind (arith, nat_tests)
