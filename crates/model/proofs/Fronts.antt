-- The front of a buffer that is lent for a collection.
use Rattle.std.proofs.Common.{◌≡◌, ℕ, ◌-◌, ◌≤◌, Bool, true, false, cond, List, ◌++◌, length, take, drop, is_ok, sym, refl, ap, ◌∙◌, append_assoc, arith, rules}
use borrow.Rule.Slice.PartMut.{post_of}
use Rattle.std.proofs.lemmas.List.Folds.{drop_split}
use Rattle.std.proofs.lemmas.Slice.{between_is}
use Rattle.line.specs.Collecting.{over, collect_answer}
use Rattle.line.specs.Reply.{Reply}
use Rattle.model.proofs.Lends.{put_back}

drop_front : (k n : ℕ) (xs : List ℕ) → k ≤ n → drop k (take n xs) ++ drop n xs ≡ drop k xs
drop_front k n xs l = ap (λ (zs : List ℕ). zs ++ drop n xs) (sym (between_is xs k n)) ∙ sym (drop_split xs k n l)

-- a reply that is collected into the front is written over the whole
pub collected_back : (t : Bool) (w xs b : List ℕ) (n : ℕ) → (t ≡ true → length w ≤ n) → b ≡ cond t (over w (take (n - 0) xs)) (take (n - 0) xs)
    → b ++ post_of 0 (n - 0) xs ≡ cond t (over w xs) xs
collected_back true w xs b n l e =
    ap (λ (zs : List ℕ). zs ++ post_of 0 (n - 0) xs) e ∙ append_assoc w (drop (length w) (take (n - 0) xs)) (drop (n - 0) xs)
    ∙ ap (λ (zs : List ℕ). w ++ zs) (drop_front (length w) (n - 0) xs (omega (arith, l refl)))
collected_back false w xs b n l e = put_back n xs b e

-- what was collected fitted
pub collected_fits : (w : List ℕ) (m : Reply) (n : ℕ) → is_ok (collect_answer w m n) ≡ true → length w ≤ n
collected_fits w m n h = search rules
