-- The arms of a write, one for each group of registers.
use Rattle.std.proofs.Common.{◌≡◌, ℕ, ◌-◌, true, false, eqb, set, arith}
use Rattle.std.proofs.lemmas.Bool.{cond_both}
use Rattle.std.proofs.lemmas.Bool.Decides.{nat_tests}
use Rattle.bits.specs.Bits.{bit}
use Rattle.registers.specs.Bytes.{delay_high, delay_low, switches_byte, without_clear}
use Rattle.registers.specs.Clocking.{clock_with}
use Rattle.registers.specs.Contents.{Contents, with_control, with_delay, with_flags, with_limits, with_moment, with_rate, with_switches, with_user}
use Rattle.registers.specs.Flags.{status_1_kept, status_2_kept}
use Rattle.registers.specs.Laws.{keeps_bytes}
use Rattle.registers.specs.Limiting.{limits_with}
use Rattle.registers.specs.Reading.{within}
use Rattle.registers.specs.Writing.{stored}

-- What holds of the contents after each arm, at its addresses.
pub record Arms (P : Contents → Type 0) (c : Contents) (address value : ℕ) : Type 0 where
  pub clock : within 0x00 0x06 address ≡ true → P (with_moment c (clock_with c.moment address value))
  pub temperature : within 0x0B 0x0C address ≡ true → P (with_limits c (limits_with c.limits address value))
  pub rate : eqb address 0x0D ≡ true → P (with_rate c value)
  pub control : eqb address 0x0E ≡ true → P (with_control c (without_clear value) (bit 6 value))
  pub low : eqb address 0x12 ≡ true → P (with_delay c (delay_low c.delay value))
  pub high : eqb address 0x13 ≡ true → P (with_delay c (delay_high c.delay value))
  pub status_1 : eqb address 0x14 ≡ true → P (with_flags c (status_1_kept c.flags value))
  pub voltages : within 0x23 0x28 address ≡ true → P (with_limits c (limits_with c.limits address value))
  pub switches : eqb address 0x29 ≡ true → P (with_switches c (switches_byte value))
  pub status_2 : eqb address 0x2A ≡ true → P (with_flags c (status_2_kept c.flags value))
  pub user : within 0x40 0x5F address ≡ true → P (with_user c (set c.user (address - 0x40) value))
  pub none : keeps_bytes address ≡ false → P c

-- It then holds after the write.
pub by_arms : (P : Contents → Type 0) (c : Contents) (address value : ℕ) → Arms P c address value → P (stored c address value)
by_arms P c address value arms =
    cond_both (within 0x00 0x06 address) _ _ P arms.clock (λ not_clock.
    cond_both (within 0x0B 0x0C address) _ _ P arms.temperature (λ not_temperature.
    cond_both (eqb address 0x0D) _ _ P arms.rate (λ not_rate.
    cond_both (eqb address 0x0E) _ _ P arms.control (λ not_control.
    cond_both (eqb address 0x12) _ _ P arms.low (λ not_low.
    cond_both (eqb address 0x13) _ _ P arms.high (λ not_high.
    cond_both (eqb address 0x14) _ _ P arms.status_1 (λ _.
    cond_both (within 0x23 0x28 address) _ _ P arms.voltages (λ not_voltages.
    cond_both (eqb address 0x29) _ _ P arms.switches (λ _.
    cond_both (eqb address 0x2A) _ _ P arms.status_2 (λ _.
    cond_both (within 0x40 0x5F address) _ _ P arms.user (λ not_user.
    let not_kept : keeps_bytes address ≡ false = grind (arith, nat_tests) in
    arms.none not_kept)))))))))))
