-- One more reading, and the sum of the bins, for every kind of reading.
use Rattle.std.proofs.Common.{◌≡◌, ℕ, zero, suc, ◌+◌, ◌<◌, min, cond, eqb, ◌⊎◌, List, [], ◌∷◌, ◌++◌, map, length, get_or, set, replicate, sum, sym, refl, ap, ◌∙◌, inl, inr, add-zero, zero-add, arith, length-set, get_or-set_other, get_or-set_same, ext_get_or}
use Rattle.std.specs.List.{range_with_len, AllByRecursion}
use Rattle.std.proofs.lemmas.List.FromFn.{length-map-range_with_len, get_or-map-range_with_len}
use Rattle.std.proofs.lemmas.List.Sums.{sum_by_push, sum_by-cons, sum_by-set}
use Rattle.std.proofs.lemmas.Bool.{cases_eq, eq-eqb, ne_eqb}
use Rattle.histogram.specs.Bins.{NoneFull, falling, bin_after, bins_after, raised}

-- Lists of n values that agree at each place are equal.
same_values : (n : ℕ) (f g : ℕ → ℕ) → ((b : ℕ) → b < n → g b ≡ f b) → map g (range_with_len 0 n) ≡ map f (range_with_len 0 n)
same_values n f g same = ext_get_or 0 _ _ (length-map-range_with_len g 0 n ∙ sym (length-map-range_with_len f 0 n)) (λ b h.
    let l : b < n = omega (arith, length-map-range_with_len g 0 n) in
    get_or-map-range_with_len g 0 n b b 0 l (omega arith) ∙ same b l ∙ sym (get_or-map-range_with_len f 0 n b b 0 l (omega arith)))

-- A list of n values that agrees with another but at one place is that other, set there.
module _ (n : ℕ) (f g : ℕ → ℕ) (q v : ℕ) (low : q < n) (other : (b : ℕ) → (b ≡ q → ⊥) → g b ≡ f b) (here : g q ≡ v) where
  set_value_at : (b : ℕ) → b < n → (b ≡ q) ⊎ (b ≡ q → ⊥) → g b ≡ get_or (set (map f (range_with_len 0 n)) q v) b 0
  set_value_at b l (inl e) =
      let k : q < length (map f (range_with_len 0 n)) = omega (arith, length-map-range_with_len f 0 n) in
      rw (e, get_or-set_same (map f (range_with_len 0 n)) q v 0 k) here
  set_value_at b l (inr e) =
      other b e ∙ sym (get_or-set_other (map f (range_with_len 0 n)) q b v 0 e ∙ get_or-map-range_with_len f 0 n b b 0 l (omega arith))

  set_value : map g (range_with_len 0 n) ≡ set (map f (range_with_len 0 n)) q v
  set_value = ext_get_or 0 _ _ (length-map-range_with_len g 0 n ∙ sym (length-set (map f (range_with_len 0 n)) q v ∙ length-map-range_with_len f 0 n)) (λ b h.
      let l : b < n = omega (arith, length-map-range_with_len g 0 n) in
      get_or-map-range_with_len g 0 n b b 0 l (omega arith) ∙ set_value_at b l (cases_eq b q))

module _ {X : Type 0} (place : X → ℕ) where
  -- One reading adds 1 to its own bin and nothing to another.
  one : X → ℕ → ℕ
  one r b = cond (eqb (place r) b) 1 0

  one_here : (r : X) → one r (place r) ≡ 1
  unfolding one
  one_here r = rw (eq-eqb (place r) (place r) refl)

  one_other : (r : X) (b : ℕ) → (b ≡ place r → ⊥) → one r b ≡ 0
  unfolding one
  one_other r b e = rw (ne_eqb (place r) b (λ k. e (sym k)))

  falling_push : (readings : List X) (r : X) (b : ℕ) → falling place (readings ++ r ∷ []) b ≡ falling place readings b + one r b
  unfolding one
  falling_push readings r b = sum_by_push (λ x. cond (eqb (place x) b) 1 0) readings r

  falling_cons : (readings : List X) (r : X) (b : ℕ) → falling place (r ∷ readings) b ≡ one r b + falling place readings b
  unfolding one
  falling_cons readings r b = sum_by-cons (λ x. cond (eqb (place x) b) 1 0) r readings

  -- No reading leaves every bin at 0.
  pub bins_none : (n : ℕ) → replicate n 0 ≡ bins_after place n []
  unfolding bins_after
  bins_none n = from 0 n
    where
      from : (i k : ℕ) → replicate k 0 ≡ map (bin_after place []) (range_with_len i k)
      from i zero = refl
      from i (suc k) = ap (λ (bs : List ℕ). 0 ∷ bs) (from (i + 1) k)

  -- One more reading raises its bin.
  pub bins_push : (n : ℕ) (readings : List X) (r : X) → place r < n → raised (bins_after place n readings) (place r) ≡ bins_after place n (readings ++ r ∷ [])
  unfolding bins_after
  bins_push n readings r h =
      let at : get_or (bins_after place n readings) (place r) 0 ≡ bin_after place readings (place r)
      = get_or-map-range_with_len (bin_after place readings) 0 n (place r) (place r) 0 h (omega arith) in
      let more : min (falling place readings (place r) + 1) 65535 ≡ min (min (falling place readings (place r)) 65535 + 1) 65535 = omega arith in
      sym (set_value n (bin_after place readings) (bin_after place (readings ++ r ∷ [])) (place r) _ h
      (λ b e. rw (falling_push readings r b, one_other r b e, add-zero (falling place readings b)))
      (rw (falling_push readings r (place r), one_here r, at) more))

  -- Uncapped, the bins add up to the number of readings.
  sum_falling : (n : ℕ) (readings : List X) → AllByRecursion (λ r. place r < n) readings → sum (map (falling place readings) (range_with_len 0 n)) ≡ length readings
  sum_falling n [] within = none n 0
    where
      none : (k i : ℕ) → sum (map (falling place []) (range_with_len i k)) ≡ 0
      none zero i = refl
      none (suc k) i = sum_by-cons (λ x. x) 0 (map (falling place []) (range_with_len (i + 1) k)) ∙ rw (none k (i + 1))
  sum_falling n (r ∷ readings) within =
      let q : ℕ = place r in
      let before : List ℕ = map (falling place readings) (range_with_len 0 n) in
      let l : q < length before = omega (arith, length-map-range_with_len (falling place readings) 0 n, within.0) in
      let at : get_or before q 0 ≡ falling place readings q
      = get_or-map-range_with_len (falling place readings) 0 n q q 0 within.0 (omega arith) in
      let e : map (falling place (r ∷ readings)) (range_with_len 0 n) ≡ set before q (1 + falling place readings q)
      = set_value n (falling place readings) (falling place (r ∷ readings)) q (1 + falling place readings q) within.0
      (λ b k. rw (falling_cons readings r b, one_other r b k, zero-add (falling place readings b)))
      (rw (falling_cons readings r q, one_here r)) in
      let s : sum (set before q (1 + falling place readings q)) + get_or before q 0 ≡ sum before + (1 + falling place readings q)
      = sum_by-set (λ x. x) before q (1 + falling place readings q) 0 l in
      ap sum e ∙ omega (arith, sum_falling n readings within.1)

  -- While no bin is at the top, the bins add up to the number of readings.
  pub sum_bins : (n : ℕ) (readings : List X) → AllByRecursion (λ r. place r < n) readings → NoneFull n (bins_after place n readings) → sum (bins_after place n readings) ≡ length readings
  unfolding bins_after
  sum_bins n readings within room =
      ap sum (same_values n (falling place readings) (bin_after place readings) (λ b h.
      let at : get_or (bins_after place n readings) b 0 ≡ bin_after place readings b
      = get_or-map-range_with_len (bin_after place readings) 0 n b b 0 h (omega arith) in
      omega (arith, room b h)))
      ∙ sum_falling n readings within
