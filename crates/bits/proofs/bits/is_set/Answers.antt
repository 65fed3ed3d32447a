use Rattle.std.proofs.Common.{◌≡◌, ◌/◌, ◌^◌, ◌≤◌, zero, arith}
use Rattle.std.proofs.Math.Nat.{div-eq_of_lt, pow-le-pow_right}
use Rattle.bits.proofs.bits.is_set.Goals as goal

-- The byte is below the weight of bit 8, and so below that of each higher bit.
pub returns-else-i-lt-BITS : goal.returns-else-i-lt-BITS
returns-else-i-lt-BITS c =
    let weight : 2 ^ 8 ≤ 2 ^ c.args.i = pow-le-pow_right (omega arith) c.if-i-lt-BITS.false in
    let none : c.args.byte / 2 ^ c.args.i ≡ zero = div-eq_of_lt (omega (arith, weight)) in
    grind (arith, none, c.if-i-lt-BITS.false)
