-- The first n of a list that grows at its end.
use Rattle.std.proofs.Common.{◌≡◌, ℕ, zero, suc, List, [], ◌∷◌, ◌++◌, take, sym, refl, ap, ◌∙◌}
use Rattle.std.proofs.lemmas.List.{take_all}
use Rattle.hex_text.specs.declared.short.ShortBytes.{ShortBytes}
use Rattle.hex_text.specs.Short.{held}

-- what is cut off before more is added is cut off after it
take_front : {X : Type 0} (n : ℕ) (xs ys : List X) → take n (take n xs ++ ys) ≡ take n (xs ++ ys)
take_front zero xs ys = refl
take_front (suc n) [] ys = refl
take_front (suc n) (x ∷ xs) ys = ap (λ zs. x ∷ zs) (take_front n xs ys)

pub front_more : {X : Type 0} (n : ℕ) {h h' : List X} (xs ys : List X) → h ≡ take n xs → h' ≡ take n (h ++ ys) → h' ≡ take n (xs ++ ys)
front_more n xs ys e f = f ∙ ap (λ zs. take n (zs ++ ys)) e ∙ take_front n xs ys

-- what is held has room
pub held_short : (s : ShortBytes) {xs : List ℕ} → held s ≡ xs → held s ≡ take 240 xs
held_short s e = sym (take_all 240 (held s) s.few) ∙ ap (take 240) e
