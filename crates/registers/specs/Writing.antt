-- Which writes are taken, and what they change.
use Rattle.std.specs.Prelude.{ℕ, ◌-◌, Bool, true, cond, not, ◌&&◌, is_ok, Ok, Err, Result, ◌==◌, nat_lt, slice_set}
use Rattle.bits.specs.Bits.{bit}
use Rattle.mission.specs.Channels.{any_on, channels_of}
use Rattle.refusal.specs.declared.refusal.Refusal.{Refusal}
use Rattle.refusal.specs.declared.refusal.Refusal.TheVariants.{BadValue, NoChannel, NoRule, NotCleared}
use Rattle.registers.specs.Bytes.{delay_high, delay_low, switches_byte, without_clear}
use Rattle.registers.specs.Clocking.{clock_takes, clock_with}
use Rattle.registers.specs.Contents.{Contents, with_control, with_delay, with_flags, with_limits, with_moment, with_rate, with_switches, with_user}
use Rattle.registers.specs.Flags.{status_1_kept, status_2_kept}
use Rattle.registers.specs.Limiting.{limits_with}
use Rattle.registers.specs.Reading.{within}

-- The write is taken.
abbrev pub taken : Result (Unit {0}) Refusal
taken = Ok tt

-- The sample rate is written only while the record is cleared, and one that is not 0 only while a channel is on.
abbrev pub rate_answer : Contents → ℕ → Result (Unit {0}) Refusal
rate_answer c value =
    cond c.cleared
    (cond (nat_lt 0 value && not (any_on (channels_of c.switches))) (Err NoChannel) taken)
    (Err NotCleared)

-- The rule of each address. The clock takes what makes a moment, bit 5 of Control 1 and bit 7 of Control 2 must be
-- 0, and the other registers that can be written take any value.
abbrev pub write_answer : Contents → ℕ → ℕ → Result (Unit {0}) Refusal
write_answer c address value =
    cond (within 0x00 0x06 address) (cond (clock_takes c.moment address value) taken (Err (BadValue address)))
    (cond (within 0x0B 0x0C address) taken
    (cond (address == 0x0D) (rate_answer c value)
    (cond (address == 0x0E) (cond (bit 5 value) (Err (BadValue address)) taken)
    (cond (within 0x12 0x14 address) taken
    (cond (within 0x23 0x28 address) taken
    (cond (address == 0x29) (cond (bit 7 value) (Err (BadValue address)) taken)
    (cond (address == 0x2A) taken
    (cond (within 0x40 0x5F address) taken (Err (NoRule address))))))))))

-- What a write that is taken changes.
abbrev pub stored : Contents → ℕ → ℕ → Contents
stored c address value =
    cond (within 0x00 0x06 address) (with_moment c (clock_with c.moment address value))
    (cond (within 0x0B 0x0C address) (with_limits c (limits_with c.limits address value))
    (cond (address == 0x0D) (with_rate c value)
    (cond (address == 0x0E) (with_control c (without_clear value) (bit 6 value))
    (cond (address == 0x12) (with_delay c (delay_low c.delay value))
    (cond (address == 0x13) (with_delay c (delay_high c.delay value))
    (cond (address == 0x14) (with_flags c (status_1_kept c.flags value))
    (cond (within 0x23 0x28 address) (with_limits c (limits_with c.limits address value))
    (cond (address == 0x29) (with_switches c (switches_byte value))
    (cond (address == 0x2A) (with_flags c (status_2_kept c.flags value))
    (cond (within 0x40 0x5F address) (with_user c (slice_set c.user (address - 0x40) value)) c))))))))))

-- A refused write changes nothing.
abbrev pub write_after : Contents → ℕ → ℕ → Contents
write_after c address value = cond (is_ok (write_answer c address value)) (stored c address value) c

-- Whether a write that is taken stops a mission: one of the clock, the limits, the controls or the start delay, or of
-- a 0 to bit 5 of Status 1.
abbrev pub stops : ℕ → ℕ → Bool
stops address value =
    cond (within 0x00 0x06 address) true
    (cond (within 0x0B 0x0C address) true
    (cond (address == 0x0E) true
    (cond (within 0x12 0x13 address) true
    (cond (address == 0x14) (not (bit 5 value))
    (within 0x23 0x29 address)))))
