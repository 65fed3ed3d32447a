-- The map, byte by byte.
use Rattle.std.proofs.Common.{◌≡◌, ℕ, ◌+◌, ◌-◌, ◌≤◌, List, [], ◌∷◌, ◌++◌, map, is_some, Some, None, Option, sym, refl, ap, ◌∙◌, arith}
use Rattle.std.specs.List.{range_with_len}
use Rattle.std.proofs.lemmas.List.FromFn.{map-range_with_len_more}
use Rattle.recorder.specs.declared.chip.Mission.{Mission}
use Rattle.recorder.specs.Control.{mission_as}

pub some_as : (o : Option Mission) → is_some (mission_as o) ≡ is_some o
some_as None = refl
some_as (Some m) = refl

-- the byte at n joins those from a up to n
pub page_more : (f : ℕ → ℕ) {items more : List ℕ} {a n b k : ℕ}
    → more ≡ items ++ b ∷ [] → items ≡ map f (range_with_len a (n - a)) → b ≡ f n → a ≤ n → n - a + 1 ≡ k → more ≡ map f (range_with_len a k)
page_more f {items} {more} {a} {n} {b} {k} pushed e h l is =
    pushed ∙ ap (λ (xs : List ℕ). xs ++ b ∷ []) e ∙ ap (λ (m : ℕ). map f (range_with_len a (n - a)) ++ m ∷ []) h
    ∙ sym (map-range_with_len_more f a (n - a) n (omega arith)) ∙ ap (λ (m : ℕ). map f (range_with_len a m)) is
