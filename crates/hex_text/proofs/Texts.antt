-- Text that is written byte by byte.
use Rattle.std.proofs.Common.{◌≡◌, ℕ, ◌+◌, ◌<◌, List, [], ◌∷◌, ◌++◌, length, get_or, take, sym, refl, ap, ◌∙◌}
use Rattle.std.proofs.lemmas.List.{take_more, append_assoc}
use Rattle.hex_text.specs.Digits.{two_digits}
use Rattle.hex_text.specs.Text.{spaced}
use Rattle.hex_text.proofs.Fronts.{front_more}

spaced_push : (xs : List ℕ) (b : ℕ) → spaced (xs ++ b ∷ []) ≡ spaced xs ++ (32 ∷ two_digits b)
spaced_push [] b = refl
spaced_push (x ∷ xs) b = ap (λ zs. 32 ∷ two_digits x ++ zs) (spaced_push xs b)

-- one more byte, after a space
pub text_more : (n : ℕ) (start xs : List ℕ) {h h' : List ℕ} (i : ℕ) → i < length xs → h ≡ take n (start ++ spaced (take i xs))
    → h' ≡ take n (h ++ 32 ∷ two_digits (get_or xs i 0)) → h' ≡ take n (start ++ spaced (take (i + 1) xs))
text_more n start xs i l e f =
    let old = spaced (take i xs) in
    let byte = get_or xs i 0 in
    front_more n (start ++ old) (32 ∷ two_digits byte) e f
    ∙ ap (take n) (append_assoc start old (32 ∷ two_digits byte)
    ∙ ap (λ zs. start ++ zs) (sym (spaced_push (take i xs) byte) ∙ ap spaced (sym (take_more xs i 0 l))))
