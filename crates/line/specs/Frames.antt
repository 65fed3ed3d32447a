-- A frame of data and check bytes: its length, and that it is accepted.
use Rattle.std.specs.Prelude.{◌≡◌, ℕ, ◌+◌, ◌-◌, ◌<◌, ◌≤◌, true, List, length, drop, Some}
use Rattle.std.proofs.Common.{sym, ap, ◌∙◌, arith}
use Rattle.std.proofs.lemmas.Bool.Decides.{nat_tests}
use Rattle.std.proofs.lemmas.List.{take_at, drop_at, length-append}
use Rattle.std.proofs.lemmas.Slice.Eq.{bytes_eq-Decides}
use Rattle.line.specs.Wires.{checked, data_of, right_checks, from_checked}

-- n check bytes are so few that every reply fits the wire with them
pub checked_narrow : (n count : ℕ) → 32 + n ≤ 80 → count ≤ 32 → count + n ≤ 80
checked_narrow n count few h = omega arith

module _ (n : ℕ) (checks : List ℕ → List ℕ) (whole : (xs : List ℕ) → length (checks xs) ≡ n) where
  pub checked_length : (xs : List ℕ) → length (checked checks xs) ≡ length xs + n
  checked_length xs = length-append xs (checks xs) ∙ ap (λ (k : ℕ). length xs + k) (whole xs)

  pub checked_accepted : (xs : List ℕ) → 0 < length xs → length xs ≤ 32 → from_checked n checks (checked checks xs) ≡ Some xs
  checked_accepted xs some few =
      let w = checked checks xs in
      let long = checked_length xs in
      let front : data_of n w ≡ xs = take_at xs (checks xs) (length w - n) (omega arith) in
      let back : drop (length w - n) w ≡ checks xs = drop_at xs (checks xs) (length w - n) (omega arith) in
      let same : right_checks n checks w ≡ true = (bytes_eq-Decides (drop (length w - n) w) (checks (data_of n w))).1 (back ∙ ap checks (sym front)) in
      grind (arith, nat_tests)
