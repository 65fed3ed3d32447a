use Rattle.std.proofs.Common.{◌≡◌, ℕ, ◌+◌, ◌-◌, false, [], ◌∷◌, ◌++◌, take, set, sym, refl, ap, ◌∙◌, arith}
use Rattle.std.proofs.lemmas.List.{take_more_set}
use Rattle.std.proofs.lemmas.Bool.{cond-true, cond-false}
use Rattle.command.specs.declared.command.Heard.{Heard}
use Rattle.command.specs.declared.command.Heard.TheVariants.{Part, Whole, Unknown}
use Rattle.command.specs.Commands.{heard_of, is_part}
use Rattle.command.proofs.received.Received.hear.Goals as goal
use Rattle.command.proofs.received.Received.hear.Goals.{in-Part, in_default}

not_part : (h : Heard) → (h ≡ Part → ⊥) → is_part h ≡ false
not_part Part e = absurd (e refl)
not_part (Whole x) e = refl
not_part Unknown e = refl

pub returns : goal.returns
returns c =
    let s = c.args.self.now in
    let xs = set s.bytes s.count c.args.byte in
    let more : take (s.count + 1) xs ≡ take s.count s.bytes ++ c.args.byte ∷ [] = take_more_set s.bytes s.count c.args.byte (omega (arith, s.whole, s.unfinished)) in
    let whole : s.count + 1 - 0 ≡ s.count + 1 = omega arith in
    record {
      answer = c.decode-heard.ensures ∙ ap (λ (n : ℕ). heard_of (take n xs)) whole ∙ ap heard_of more;
      after = elim c.match-heard.branch [
        | in-Part w ↦ ap (λ (n : ℕ). take n xs) w.self-is ∙ more ∙ sym (cond-true (is_part c.decode-heard.result) _ _ (ap is_part w.in-Part.is))
        | in_default w ↦ ap (λ (n : ℕ). take n xs) w.self-is ∙ sym (cond-false (is_part c.decode-heard.result) _ _ (not_part c.decode-heard.result w.in_default.not-Part))
      ];
    }
