-- What a write and a read leave, once the clear enable is used up.
use Rattle.std.proofs.Common.{◌≡◌, ℕ, cond, ltb, ap, ◌∙◌}
use Rattle.command.specs.declared.command.Command.TheVariants.{Write, Read}
use Rattle.line.specs.Reply.{Reply}
use Rattle.line.specs.Sending.{send_after}
use Rattle.record.specs.Contents.{Contents as Record}
use Rattle.registers.specs.Contents.{Contents as Registers}
use Rattle.registers.specs.Steps.{take_enable_after}
use Rattle.recorder.specs.Contents.{joined}
use Rattle.recorder.specs.Control.{Controls, with_registers, written}
use Rattle.recorder.specs.Map.{page_from}
use Rattle.recorder.specs.State.{state, obeyed}

module _ (c : Controls) (recorded : Record) (m : Reply) (r : Registers) (used : r ≡ take_enable_after c.registers) where
  pub write_obeyed : (x : Controls) (a v : ℕ) → x ≡ written (with_registers c r) a v → state (joined x recorded) m ≡ obeyed (state (joined c recorded) m) (Write a v)
  write_obeyed x a v e =
      ap (λ (y : Controls). state (joined y recorded) m) (e ∙ ap (λ (q : Registers). written (with_registers c q) a v) used)

  pub read_obeyed : (n : Reply) (a : ℕ) → n ≡ cond (ltb a 0x1800) (send_after (page_from (joined (with_registers c r) recorded) a)) m
      → state (joined (with_registers c r) recorded) n ≡ obeyed (state (joined c recorded) m) (Read a)
  read_obeyed n a e =
      ap (state (joined (with_registers c r) recorded)) e
      ∙ ap (λ (q : Registers). state (joined (with_registers c q) recorded) (cond (ltb a 0x1800) (send_after (page_from (joined (with_registers c q) recorded) a)) m)) used
