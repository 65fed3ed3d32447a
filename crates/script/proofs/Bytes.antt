-- A text is that of its bytes only.
use Rattle.std.proofs.Common.{◌≡◌, ℕ, ◌/◌, ◌%◌, ◌<◌, List, [], ◌∷◌, refl, ap₂, arith}
use Rattle.std.proofs.lemmas.Bool.Decides.{nat_tests}
use Rattle.std.specs.List.{AllByRecursion}
use Rattle.hex_text.specs.Digits.{digit_char, high_digit, low_digit}
use Rattle.hex_text.specs.Text.{spaced}

digit_once : (x y : ℕ) → x < 16 → y < 16 → digit_char x ≡ digit_char y → x ≡ y
digit_once x y p q e = grind (arith, nat_tests)

-- Two digits are those of one byte only.
byte_once : (b c : ℕ) → b < 256 → c < 256 → high_digit b ≡ high_digit c → low_digit b ≡ low_digit c → b ≡ c
byte_once b c p q h l =
    let high = digit_once (b / 16) (c / 16) (omega arith) (omega arith) h in
    let low = digit_once (b % 16) (c % 16) (omega arith) (omega arith) l in
    omega (arith, high, low)

-- A text is that of one list of bytes only.
pub spaced_once : (bs cs : List ℕ) → AllByRecursion (λ byte. byte < 256) bs → AllByRecursion (λ byte. byte < 256) cs → spaced bs ≡ spaced cs → bs ≡ cs
spaced_once [] [] p q e = refl
spaced_once [] (c ∷ cs) p q e = cc
spaced_once (b ∷ bs) [] p q e = cc
spaced_once (b ∷ bs) (c ∷ cs) p q e =
    let high : high_digit b ≡ high_digit c = cc in
    let low : low_digit b ≡ low_digit c = cc in
    ap₂ (λ (x : ℕ) (xs : List ℕ). x ∷ xs) (byte_once b c p.0 q.0 high low) (spaced_once bs cs p.1 q.1 cc)
