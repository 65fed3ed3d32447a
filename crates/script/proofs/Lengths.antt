-- How long the text of bytes is.
use Rattle.std.proofs.Common.{◌≡◌, ℕ, ◌*◌, ◌≤◌, List, [], ◌∷◌, length, refl, arith}
use Rattle.hex_text.specs.Text.{spaced, text_of}

length_spaced : (bs : List ℕ) → length (spaced bs) ≡ 3 * length bs
length_spaced [] = refl
length_spaced (b ∷ bs) = let more = length_spaced bs in omega arith

-- The text of at most n bytes has at most three characters for each.
pub text_short : (n : ℕ) (bs : List ℕ) → length bs ≤ n → length (text_of bs) ≤ 3 * n
text_short n [] h = omega arith
text_short n (b ∷ bs) h = let more = length_spaced bs in omega arith
