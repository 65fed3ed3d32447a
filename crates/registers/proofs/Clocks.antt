-- What the clock shows after a write of one of its registers.
use Rattle.std.proofs.Common.{◌≡◌, ℕ, true, cond, leb, Some, None, Option, refl, ap, ◌∙◌, arith}
use Rattle.std.proofs.lemmas.Bool.{cond_both, and_parts}
use Rattle.std.proofs.lemmas.Bool.Decides.{nat_tests}
use Rattle.clock.specs.Bcd.{bcd_of, is_bcd, number_of}
use Rattle.clock.specs.Calendar.{moment_exists}
use Rattle.clock.specs.Registers.{accepts, field_of, register_at, replaced}
use Rattle.clock.specs.declared.calendar.Moment.{Moment}
use Rattle.clock.specs.declared.registers.ClockRegister.{ClockRegister}
use Rattle.clock.specs.declared.registers.ClockRegister.TheVariants.{Seconds, Minutes, Hours, Weekday, Date, Month, Year}
use Rattle.registers.specs.Clocking.{clock_at, moved_by, shown_by, taken_by}
use Rattle.registers.specs.Reading.{within}

-- A BCD byte is that of its number.
bcd_back : (value : ℕ) → is_bcd value ≡ true → bcd_of (number_of value) ≡ value
bcd_back value e = grind (arith, nat_tests)

-- A field that is replaced is the new one.
field_back : (m : Moment) (register : ClockRegister) (n : ℕ) → field_of (replaced m register n) register ≡ n
field_back m Seconds n = refl
field_back m Minutes n = refl
field_back m Hours n = refl
field_back m Weekday n = refl
field_back m Date n = refl
field_back m Month n = refl
field_back m Year n = refl

-- The register that took a value shows it.
pub moved_back :
    (m : Moment) (at : Option ClockRegister) (value : ℕ) → taken_by m at value ≡ true → shown_by (moved_by m at value) at ≡ value
moved_back m None value e = absurd (let z : ⊥ = grind arith in z)
moved_back m (Some register) value e =
    let written = replaced m register (number_of value) in
    let digits = (and_parts (is_bcd value) (moment_exists written) e).0 in
    rw e (ap bcd_of (field_back m register (number_of value)) ∙ bcd_back value digits)

-- The address of a register, and 7 for none.
abbrev address_of : Option ClockRegister → ℕ
address_of None = 7
address_of (Some Seconds) = 0
address_of (Some Minutes) = 1
address_of (Some Hours) = 2
address_of (Some Weekday) = 3
address_of (Some Date) = 4
address_of (Some Month) = 5
address_of (Some Year) = 6

-- The address of the register at an address is that address.
address_at : (address : ℕ) → address_of (register_at address) ≡ cond (leb address 6) address 7
address_at address = grind (arith, nat_tests)

-- No other address has the register of an address.
pub apart :
    (address other : ℕ) → within 0x00 0x06 address ≡ true → (other ≡ address → ⊥)
    → register_at other ≡ register_at address → ⊥
apart address other at ne same =
    let e : cond (leb other 6) other 7 ≡ cond (leb address 6) address 7 = cc (address_at address, address_at other, ap address_of same) in
    grind (arith, nat_tests)

-- Where a field is replaced, only its register shows another byte.
replaced_others :
    (m : Moment) (register : ClockRegister) (n other : ℕ)
    → (register_at other ≡ Some register → ⊥) → clock_at (replaced m register n) other ≡ clock_at m other
replaced_others m Seconds n other ne = grind (arith, nat_tests)
replaced_others m Minutes n other ne = grind (arith, nat_tests)
replaced_others m Hours n other ne = grind (arith, nat_tests)
replaced_others m Weekday n other ne = grind (arith, nat_tests)
replaced_others m Date n other ne = grind (arith, nat_tests)
replaced_others m Month n other ne = grind (arith, nat_tests)
replaced_others m Year n other ne = grind (arith, nat_tests)

-- The other registers show what they showed.
pub moved_others :
    (m : Moment) (at : Option ClockRegister) (value other : ℕ)
    → (register_at other ≡ at → ⊥) → clock_at (moved_by m at value) other ≡ clock_at m other
moved_others m None value other ne = refl
moved_others m (Some register) value other ne =
    cond_both (accepts m register value) (replaced m register (number_of value)) m
    (λ k. clock_at k other ≡ clock_at m other)
    (λ _. replaced_others m register (number_of value) other ne)
    (λ _. refl)
