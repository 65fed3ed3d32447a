-- The laws of the roll-over store.
use Rattle.std.proofs.Common.{◌≡◌, ℕ, ◌+◌, ◌-◌, ◌*◌, ◌/◌, ◌%◌, ◌<◌, ◌≤◌, ◌≢◌, ◌⊎◌, List, [], ◌∷◌, ◌++◌, length, get_or, set, replicate, sym, refl, ap, ◌∙◌, inl, inr, append-nil, mul-le-mul_right, mod-lt, mod-eq_of_lt, div-add-mod', div-mul-le_self, add-one, arith, length-set, get_or-set_other, get_or-set_same, ext_get_or}
use native.Mathlib.Nat.{mod-le, add-mul-mod_self_right, lt-div-mul-add, zero-mod, suc-mod, mod-mod}
use lib.ListN.{length-replicate, get_or-replicate, get_or-append}
use lib.Seq.{append_snoc}
use Rattle.std.proofs.lemmas.List.{get_or_push, get_or_past, length_push}
use Rattle.std.proofs.lemmas.List.FromFn.{length-map-range_with_len, get_or-map-range_with_len}
use Rattle.std.proofs.lemmas.Bool.{cases_lt, cases_order, lt-ltb}
use Rattle.ring.specs.Steps.{stored, advanced, stored_all, advanced_all}
use Rattle.ring.specs.History.{Stands, latest_for, ring_of, WrittenOutStands, NoOtherStands, BlankAtFirst}

-- Of c numbers in a row no two leave the same remainder.
apart : (c i n : ℕ) → i < n → n < i + c → i % c ≢ n % c
apart c i n h k e =
    elim (cases_lt (i / c) (n / c)) [
      | inl l ↦ let p : (i / c + 1) * c ≤ n / c * c = mul-le-mul_right c (omega arith) in
          omega (arith, div-add-mod' i c, div-add-mod' n c)
      | inr l ↦ let p : n / c * c ≤ i / c * c = mul-le-mul_right c l in
          omega (arith, div-add-mod' i c, div-add-mod' n c)
    ]

module _ {X : Type 0} (c : ℕ) (blank : X) (pos : 0 < c) where
  -- One more entry.

  put_latest : (entries memory : List X) (next : ℕ) (x : X) → Stands c blank entries memory next
      → (j : ℕ) → j < length entries + 1 → length entries + 1 ≤ j + c → (j ≡ length entries) ⊎ ((j < length entries) ⊎ (length entries < j))
      → get_or (set memory (length entries % c) x) (j % c) blank ≡ get_or (entries ++ x ∷ []) j blank
  put_latest entries memory next x s j h k (inl e) =
      let l : length entries % c < length memory = omega (arith, s.size, mod-lt (length entries) pos) in
      rw (e, get_or-set_same memory (length entries % c) x blank l, get_or_push entries x blank (length entries) refl)
  put_latest entries memory next x s j h k (inr (inl l)) =
      rw (get_or-set_other memory (length entries % c) (j % c) x blank (apart c j (length entries) l (omega arith)), get_or-append entries (x ∷ []) blank j l)
      (s.latest j l (omega arith))
  put_latest entries memory next x s j h k (inr (inr l)) = absurd (omega arith)

  put_at : (entries memory : List X) (next : ℕ) (x : X) → Stands c blank entries memory next
      → Stands c blank (entries ++ x ∷ []) (set memory (length entries % c) x) ((length entries + 1) % c)
  put_at entries memory next x s = record {
    size = length-set memory (length entries % c) x ∙ s.size;
    latest = λ j h k. put_latest entries memory next x s j (rw length_push at h) (rw length_push at k) (cases_order j (length entries));
    unwritten = λ p h k.
        let l : length entries + 1 ≤ p = rw length_push at h in
        let e : length entries % c ≡ length entries = mod-eq_of_lt (omega arith) in
        let ne : p ≢ length entries % c = omega arith in
        rw (get_or-set_other memory (length entries % c) p x blank ne) (s.unwritten p (omega arith) k);
    place = rw length_push;
  }

  stored_is : (entries memory : List X) (next : ℕ) (x : X) → Stands c blank entries memory next
      → stored memory next x ≡ set memory (length entries % c) x
  stored_is entries memory next x s = rw (s.size, s.place, mod-mod (length entries) c)

  advanced_is : (entries memory : List X) (next : ℕ) → Stands c blank entries memory next
      → advanced (length memory) next ≡ (length entries + 1) % c
  advanced_is entries memory next s =
      rw (s.size, s.place, lt-ltb 0 c pos, mod-mod (length entries) c, add-one (length entries % c), add-one (length entries)) (sym (suc-mod (length entries) c))

  pub stands_put : (entries memory : List X) (next : ℕ) (x : X) → Stands c blank entries memory next
      → Stands c blank (entries ++ x ∷ []) (stored memory next x) (advanced (length memory) next)
  stands_put entries memory next x s =
      rw (stored_is entries memory next x s, advanced_is entries memory next s) (put_at entries memory next x s)

  -- The same of what a call left, tied to the step by equations.
  pub stands_after : (entries memory memory' : List X) (next next' : ℕ) (x : X)
      → memory' ≡ stored memory next x → next' ≡ advanced (length memory) next
      → Stands c blank entries memory next → Stands c blank (entries ++ x ∷ []) memory' next'
  stands_after entries memory memory' next next' x e f s = rw (e, f) (stands_put entries memory next x s)

  -- Several more entries.
  stands_put_all : (more entries memory : List X) (next : ℕ) → Stands c blank entries memory next
      → Stands c blank (entries ++ more) (stored_all memory next more) (advanced_all (length memory) next more)
  stands_put_all [] entries memory next s = rw append-nil s
  stands_put_all (x ∷ more) entries memory next s =
      rw (append_snoc entries x more, length-set memory (next % length memory) x)
      at (stands_put_all more (entries ++ x ∷ []) (stored memory next x) (advanced (length memory) next) (stands_put entries memory next x s))

  pub stands_after_all : (entries memory memory' : List X) (next next' : ℕ) (more : List X)
      → memory' ≡ stored_all memory next more → next' ≡ advanced_all (length memory) next more
      → Stands c blank entries memory next → Stands c blank (entries ++ more) memory' next'
  stands_after_all entries memory memory' next next' more e f s = rw (e, f) (stands_put_all more entries memory next s)

  -- No entry yet.
  pub stands_blank : (memory : List X) (next : ℕ) → memory ≡ replicate c blank → next ≡ 0 → Stands c blank [] memory next
  stands_blank memory next e f = record {
    size = rw e (length-replicate c blank);
    latest = λ j h k. absurd (omega arith);
    unwritten = λ p h k. rw e (get_or-replicate c p blank blank k);
    place = rw f (sym (zero-mod c));
  }

  -- The memory written out place by place: the number that `latest-for` gives.

  for_place : (n p : ℕ) → p < c → latest_for c n p % c ≡ p
  for_place n p h = add-mul-mod_self_right p ((n - 1 - p) / c) c ∙ mod-eq_of_lt h

  for_below : (n p : ℕ) → p < n → latest_for c n p < n
  for_below n p h = omega (arith, div-mul-le_self (n - 1 - p) c)

  for_late : (n p : ℕ) → n ≤ latest_for c n p + c
  for_late n p = omega (arith, lt-div-mul-add {a = n - 1 - p} {b = c} pos)

  for_is : (n j : ℕ) → j < n → n ≤ j + c → (latest_for c n (j % c) ≡ j) ⊎ ((latest_for c n (j % c) < j) ⊎ (j < latest_for c n (j % c)))
      → latest_for c n (j % c) ≡ j
  for_is n j h k (inl e) = e
  for_is n j h k (inr (inl l)) =
      absurd (apart c (latest_for c n (j % c)) j l (omega (arith, for_late n (j % c))) (for_place n (j % c) (mod-lt j pos)))
  for_is n j h k (inr (inr l)) =
      let b : latest_for c n (j % c) < n = for_below n (j % c) (omega (arith, mod-le j c)) in
      absurd (apart c j (latest_for c n (j % c)) l (omega arith) (sym (for_place n (j % c) (mod-lt j pos))))

  pub ring_of_stands : (entries : List X) → Stands c blank entries (ring_of c blank entries) (length entries % c)
  unfolding ring_of
  ring_of_stands entries = record {
    size = length-map-range_with_len _ 0 c;
    latest = λ j h k.
        get_or-map-range_with_len _ 0 c (j % c) (j % c) blank (mod-lt j pos) (omega arith)
        ∙ ap (λ (i : ℕ). get_or entries i blank) (for_is (length entries) j h k (cases_order _ _));
    unwritten = λ p h k.
        get_or-map-range_with_len _ 0 c p p blank k (omega arith) ∙ get_or_past entries (latest_for c (length entries) p) blank (omega arith);
    place = refl;
  }

  pub same_memory : (entries a b : List X) (i j : ℕ) → Stands c blank entries a i → Stands c blank entries b j → a ≡ b
  same_memory entries a b i j s t = ext_get_or blank a b (s.size ∙ sym t.size) (λ p h. each p (omega (arith, s.size)) (cases_lt p (length entries)))
    where
      each : (p : ℕ) → p < c → (p < length entries) ⊎ (length entries ≤ p) → get_or a p blank ≡ get_or b p blank
      each p h (inl l) =
          let n = latest_for c (length entries) p in
          let e : n % c ≡ p = for_place (length entries) p h in
          let f = for_below (length entries) p l in
          let g = for_late (length entries) p in
          (rw e at (s.latest n f g)) ∙ sym (rw e at (t.latest n f g))
      each p h (inr l) = s.unwritten p l h ∙ sym (t.unwritten p l h)

-- A memory of no places holds nothing, whatever its blank.
blank_by : {X : Type 0} (c : ℕ) (blank : X) → (0 < c) ⊎ (c ≤ 0) → ring_of c blank [] ≡ replicate c blank
unfolding ring_of
blank_by c blank (inl pos) =
    same_memory c blank pos [] (ring_of c blank []) (replicate c blank) (0 % c) 0
    (ring_of_stands c blank pos []) (stands_blank c blank pos (replicate c blank) 0 refl refl)
blank_by c blank (inr none) = let z : c ≡ 0 = omega arith in rw z

pub written_out_stands_lem : (X : Type 0) → WrittenOutStands X
written_out_stands_lem X c blank entries pos = ring_of_stands c blank pos entries

pub no_other_stands : (X : Type 0) → NoOtherStands X
no_other_stands X c blank entries memory next pos s =
    same_memory c blank pos entries memory (ring_of c blank entries) next (length entries % c) s (ring_of_stands c blank pos entries)

pub blank_at_first : (X : Type 0) → BlankAtFirst X
blank_at_first X c blank = blank_by c blank (cases_lt 0 c)
