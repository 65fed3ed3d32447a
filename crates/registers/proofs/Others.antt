-- A write changes what no other register shows.
use Rattle.std.proofs.Common.{◌≡◌, ℕ, ◌-◌, ◌<◌, Bool, true, get_or, set, refl, arith, get_or-set_other}
use Rattle.std.proofs.lemmas.Bool.Decides.{nat_tests}
use Rattle.clock.specs.Registers.{register_at}
use Rattle.registers.specs.Clocking.{clock_at, clock_with}
use Rattle.registers.specs.Contents.{Contents, with_limits, with_moment, with_user}
use Rattle.registers.specs.Limiting.{limit_at, limits_with}
use Rattle.registers.specs.Reading.{shown, within}
use Rattle.registers.specs.Writing.{stored}
use Rattle.registers.proofs.Arms.{by_arms}
use Rattle.registers.proofs.Clocks.{apart, moved_others}
use Rattle.registers.proofs.Limits.{limits_others}

module _ (c : Contents) (address value other : ℕ) (ne : other ≡ address → ⊥) (running : Bool) where
  -- The other register shows the same of these contents.
  abbrev Same : Contents → Type 0
  Same after = shown after running other ≡ shown c running other

  clock_others : within 0x00 0x06 address ≡ true → Same (with_moment c (clock_with c.moment address value))
  clock_others at =
      let e : clock_at (clock_with c.moment address value) other ≡ clock_at c.moment other =
      moved_others c.moment (register_at address) value other (apart address other at ne) in
      rw e

  limit_others : Same (with_limits c (limits_with c.limits address value))
  limit_others =
      let e : limit_at (limits_with c.limits address value) other ≡ limit_at c.limits other =
      limits_others c.limits address value other ne in
      rw e

  user_others : within 0x40 0x5F address ≡ true → Same (with_user c (set c.user (address - 0x40) value))
  user_others at =
      let place = address - 0x40 in
      let at_other = other - 0x40 in
      let e : within 0x40 0x5F other ≡ true → get_or (set c.user place value) at_other 0 ≡ get_or c.user at_other 0 =
      λ here. let apart_by : at_other ≡ place → ⊥ = grind (arith, nat_tests) in get_or-set_other c.user place at_other value 0 apart_by in
      grind (arith, nat_tests, e)

  -- No arm of a write changes what the other register shows.
  pub stored_others : value < 256 → Same (stored c address value)
  stored_others small =
      by_arms Same c address value (record {
        clock = clock_others;
        temperature = λ _. limit_others;
        rate = λ at. grind (arith, nat_tests);
        control = λ at. grind (arith, nat_tests);
        low = λ at. grind (arith, nat_tests);
        high = λ at. grind (arith, nat_tests);
        status_1 = λ at. grind (arith, nat_tests);
        voltages = λ _. limit_others;
        switches = λ at. grind (arith, nat_tests);
        status_2 = λ at. grind (arith, nat_tests);
        user = user_others;
        none = λ _. refl;
      })
