-- What the registers show.
use Rattle.std.specs.Prelude.{ℕ, ◌-◌, ◌/◌, ◌%◌, Bool, cond, ◌&&◌, ◌==◌, nat_le, slice_index}
use Rattle.registers.specs.Bytes.{control_byte, status_1, status_2}
use Rattle.registers.specs.Clocking.{clock_at}
use Rattle.registers.specs.Contents.{Contents}
use Rattle.registers.specs.Limiting.{limit_at}

-- The address is one of those from the first to the last.
abbrev pub within : ℕ → ℕ → ℕ → Bool
within first last address = nat_le first address && nat_le address last

-- The byte at each address, in a mission or not. An address with no register shows 0.
abbrev pub shown : Contents → Bool → ℕ → ℕ
shown c running address =
    cond (within 0x00 0x06 address) (clock_at c.moment address)
    (cond (within 0x0B 0x0C address) (limit_at c.limits address)
    (cond (address == 0x0D) c.rate
    (cond (address == 0x0E) (control_byte c)
    (cond (address == 0x11) c.latest.temperature
    (cond (address == 0x12) (c.delay % 256)
    (cond (address == 0x13) (c.delay / 256)
    (cond (address == 0x14) (status_1 c running)
    (cond (address == 0x20) c.latest.one
    (cond (address == 0x21) c.latest.two
    (cond (address == 0x22) c.latest.three
    (cond (within 0x23 0x28 address) (limit_at c.limits address)
    (cond (address == 0x29) c.switches
    (cond (address == 0x2A) (status_2 c)
    (cond (within 0x40 0x5F address) (slice_index c.user (address - 0x40))
    (cond (within 0x218 0x21F address) (slice_index c.serial (address - 0x218)) 0)))))))))))))))
