-- What a set and a write make of one limit flag.
use Rattle.std.proofs.Common.{◌≡◌, ℕ, Bool, true, false, cond, not, ◌&&◌, ◌||◌, eqb, sym, refl}
use Rattle.std.proofs.lemmas.Bool.{cond-false, ne_eqb}
use Rattle.bits.specs.Bits.{bit}
use Rattle.mission.specs.PerChannel.{Codes, Flags as LimitFlags}
use Rattle.record.specs.Sets.{Rules}
use Rattle.registers.specs.Flags.{raised, status_1_kept, status_2_kept}
use Rattle.registers.specs.Contents.{no_flags}
use Rattle.model.specs.Flagging.{Channel, temperature, one, two, three, Side, low, high, flag_of, status_of, bit_of, on_of, limits_of, code_of, is_past}

-- A recorder as it is made has no flag set.
pub none_set : (channel : Channel) (side : Side) → flag_of channel side no_flags ≡ false
none_set temperature low = refl
none_set temperature high = refl
none_set one low = refl
none_set one high = refl
none_set two low = refl
none_set two high = refl
none_set three low = refl
none_set three high = refl

-- ---- sets

-- A set with these codes raises the flag.
abbrev pub strikes : Channel → Side → Rules → Codes → Bool
strikes channel side rules codes =
    on_of channel rules.channels && is_past side (limits_of channel rules.limits) (code_of channel codes)

module _ (flags : LimitFlags) (rules : Rules) (codes : Codes) where
  pub set_raises : (channel : Channel) (side : Side)
      → flag_of channel side (raised flags rules.channels rules.limits codes)
      ≡ (flag_of channel side flags || strikes channel side rules codes)
  set_raises temperature low = refl
  set_raises temperature high = refl
  set_raises one low = refl
  set_raises one high = refl
  set_raises two low = refl
  set_raises two high = refl
  set_raises three low = refl
  set_raises three high = refl

-- ---- writes

module _ (flags : LimitFlags) (value : ℕ) where
  -- The flag after a write to an address.
  abbrev pub flag_after : Channel → Side → ℕ → Bool
  flag_after channel side address =
      cond (eqb address (status_of channel)) (flag_of channel side flags && bit (bit_of channel side) value) (flag_of channel side flags)

  pub status_1_clears : (channel : Channel) (side : Side)
      → flag_of channel side (status_1_kept flags value) ≡ flag_after channel side 0x14
  status_1_clears temperature low = refl
  status_1_clears temperature high = refl
  status_1_clears one low = refl
  status_1_clears one high = refl
  status_1_clears two low = refl
  status_1_clears two high = refl
  status_1_clears three low = refl
  status_1_clears three high = refl

  pub status_2_clears : (channel : Channel) (side : Side)
      → flag_of channel side (status_2_kept flags value) ≡ flag_after channel side 0x2A
  status_2_clears temperature low = refl
  status_2_clears temperature high = refl
  status_2_clears one low = refl
  status_2_clears one high = refl
  status_2_clears two low = refl
  status_2_clears two high = refl
  status_2_clears three low = refl
  status_2_clears three high = refl

  module _ (address : ℕ) (not_1 : address ≡ 0x14 → ⊥) (not_2 : address ≡ 0x2A → ⊥) where
    not_status : (channel : Channel) → address ≡ status_of channel → ⊥
    not_status temperature e = not_1 e
    not_status one e = not_2 e
    not_status two e = not_2 e
    not_status three e = not_2 e

    -- A write elsewhere clears none.
    pub others_clear_none : (channel : Channel) (side : Side) → flag_of channel side flags ≡ flag_after channel side address
    others_clear_none channel side =
        sym (cond-false _ _ _ (ne_eqb address (status_of channel) (not_status channel)))

-- A write of this value to this address clears the flag.
abbrev pub wipes : Channel → Side → ℕ → ℕ → Bool
wipes channel side address value = eqb address (status_of channel) && not (bit (bit_of channel side) value)

-- A write that does not clear the flag leaves it.
pub by_wipe : (there bit flag : Bool) → cond there (flag && bit) flag ≡ cond (there && not bit) false flag
by_wipe false bit flag = refl
by_wipe true true true = refl
by_wipe true true false = refl
by_wipe true false true = refl
by_wipe true false false = refl
