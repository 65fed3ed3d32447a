-- A write that is taken is read back.
use Rattle.std.proofs.Common.{◌≡◌, ℕ, ◌-◌, ◌<◌, Bool, true, false, cond, ◌||◌, length, set, Err, sym, refl, ◌∙◌, arith, get_or-set_same}
use Rattle.std.proofs.lemmas.Bool.{both_ways, cond-true, or_left, or_right}
use Rattle.std.proofs.lemmas.Bool.Decides.{nat_tests}
use Rattle.clock.specs.Registers.{register_at}
use Rattle.refusal.specs.declared.refusal.Refusal.TheVariants.{BadValue}
use Rattle.refusal.specs.declared.refusal.Refusal.{Refusal}
use Rattle.registers.specs.Clocking.{clock_takes, clock_with}
use Rattle.registers.specs.Contents.{Contents, with_limits, with_moment, with_user}
use Rattle.registers.specs.Laws.{keeps_bytes}
use Rattle.registers.specs.Limiting.{limit_at, limits_with}
use Rattle.registers.specs.Reading.{shown, within}
use Rattle.registers.specs.Writing.{stored, taken, write_answer}
use Rattle.registers.proofs.Arms.{by_arms}
use Rattle.registers.proofs.Clocks.{moved_back}
use Rattle.registers.proofs.Limits.{limits_back}

-- A test that refuses where it fails has held where the write is taken.
taken_if : (t : Bool) (e : Refusal) → cond t taken (Err e) ≡ taken → t ≡ true
taken_if true e ok = refl
taken_if false e ok = cc

module _ (c : Contents) (address value : ℕ) (running : Bool) where
  -- The register at the address shows the value in these contents.
  abbrev Shows : Contents → Type 0
  Shows after = shown after running address ≡ value

  clock_back :
      write_answer c address value ≡ taken → within 0x00 0x06 address ≡ true
      → Shows (with_moment c (clock_with c.moment address value))
  clock_back ok at =
      let takes = clock_takes c.moment address value in
      let judged = cond-true (within 0x00 0x06 address) (cond takes taken (Err (BadValue address))) _ at in
      let e = moved_back c.moment (register_at address) value (taken_if takes (BadValue address) (sym judged ∙ ok)) in
      rw at e

  limit_back :
      (within 0x0B 0x0C address || within 0x23 0x28 address) ≡ true
      → Shows (with_limits c (limits_with c.limits address value))
  limit_back at =
      let e : limit_at (limits_with c.limits address value) address ≡ value = limits_back c.limits address value at in
      grind (arith, nat_tests)

  user_back :
      length c.user ≡ 32 → within 0x40 0x5F address ≡ true
      → Shows (with_user c (set c.user (address - 0x40) value))
  user_back whole at =
      let inside : address - 0x40 < length c.user = grind (arith, nat_tests) in
      let e = get_or-set_same c.user (address - 0x40) value 0 inside in
      grind (arith, nat_tests)

  -- A write that is taken is read back, where its register keeps bytes.
  pub stored_back :
      value < 256 → length c.user ≡ 32 → write_answer c address value ≡ taken → keeps_bytes address ≡ true
      → Shows (stored c address value)
  stored_back small whole ok keeps =
      by_arms Shows c address value (record {
        clock = clock_back ok;
        temperature = λ at. limit_back (or_left _ _ at);
        rate = λ at. grind (arith, nat_tests);
        control = λ at. grind (arith, nat_tests);
        low = λ at. grind (arith, nat_tests);
        high = λ at. grind (arith, nat_tests);
        status_1 = λ at. absurd (let z : ⊥ = grind (arith, nat_tests) in z);
        voltages = λ at. limit_back (or_right _ _ at);
        switches = λ at. absurd (let z : ⊥ = grind (arith, nat_tests) in z);
        status_2 = λ at. absurd (let z : ⊥ = grind (arith, nat_tests) in z);
        user = user_back whole;
        none = λ not_kept. absurd (both_ways _ not_kept keeps);
      })
