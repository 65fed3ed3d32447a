-- One more set: what it does to the stretches.
use Rattle.std.proofs.Common.{◌≡◌, ℕ, suc, ◌+◌, ◌-◌, Bool, true, false, ◌⊎◌, List, [], ◌∷◌, ◌++◌, length, get_or, sym, refl, ap, ◌∙◌, inl, inr, add-zero, arith}
use Rattle.std.proofs.lemmas.List.{get_or_default}
use Rattle.std.proofs.lemmas.Bool.{true≢false, false≢true}
use Rattle.alarm.specs.Pieces.{Stretch, run, stretches_from}
use Rattle.alarm.specs.Held.{newest_past}

-- Whether the last of the sets was at or past the limit, where `inside` says it of the set before them.
abbrev pub past_after : Bool → List Bool → Bool
past_after inside [] = inside
past_after inside (past ∷ sets) = past_after past sets

pub past_after_push : (inside : Bool) (sets : List Bool) (past : Bool) → past_after inside (sets ++ past ∷ []) ≡ past
past_after_push inside [] past = refl
past_after_push inside (p ∷ sets) past = past_after_push p sets past

past_after_last : (inside : Bool) (sets : List Bool) → past_after inside sets ≡ get_or sets (length sets - 1) inside
past_after_last inside [] = refl
past_after_last inside (p ∷ []) = refl
past_after_last inside (p ∷ q ∷ sets) =
    let z : suc (suc (length sets)) - 1 ≡ suc (length sets) = omega arith in
    let w : suc (length sets) - 1 ≡ length sets = omega arith in
    rw z (past_after_last p (q ∷ sets) ∙ rw w (get_or_default (q ∷ sets) (length sets) p inside (omega arith)))

pub newest_is : (sets : List Bool) → newest_past sets ≡ past_after false sets
newest_is sets = sym (past_after_last false sets)

-- A set within the limit changes no stretch.
run_ends : (sets : List Bool) → run (sets ++ false ∷ []) ≡ run sets
run_ends [] = refl
run_ends (false ∷ sets) = refl
run_ends (true ∷ sets) = ap suc (run_ends sets)

pub stretches_end : (n : ℕ) (inside : Bool) (sets : List Bool) → stretches_from n inside (sets ++ false ∷ []) ≡ stretches_from n inside sets
stretches_end n inside [] = refl
stretches_end n inside (false ∷ sets) = stretches_end (n + 1) false sets
stretches_end n false (true ∷ sets) = rw (run_ends sets, stretches_end (n + 1) true sets)
stretches_end n true (true ∷ sets) = stretches_end (n + 1) true sets

-- After a set within the limit, one at or past it begins a stretch.
run_begins : (sets : List Bool) → past_after true sets ≡ false → run (sets ++ true ∷ []) ≡ run sets
run_begins [] h = absurd (true≢false h)
run_begins (false ∷ sets) h = refl
run_begins (true ∷ sets) h = ap suc (run_begins sets h)

shift : (n l : ℕ) → n + suc l ≡ n + 1 + l
shift n l = omega arith

pub stretch_begins : (n : ℕ) (inside : Bool) (sets : List Bool) → past_after inside sets ≡ false
    → stretches_from n inside (sets ++ true ∷ []) ≡ stretches_from n inside sets ++ record { first = n + length sets; sets = 1 } ∷ []
stretch_begins n false [] h = rw add-zero
stretch_begins n true [] h = absurd (true≢false h)
stretch_begins n inside (false ∷ sets) h = rw (shift n (length sets)) (stretch_begins (n + 1) false sets h)
stretch_begins n false (true ∷ sets) h = rw (shift n (length sets), run_begins sets h, stretch_begins (n + 1) true sets h)
stretch_begins n true (true ∷ sets) h = rw (shift n (length sets)) (stretch_begins (n + 1) true sets h)

-- The stretches before and after one more set, whose number is `end`: the last stretch reaches to that set, and is one longer with it.
pub record Grows (before after : List Stretch) (end : ℕ) : Type 0 where
  pub others : List Stretch
  pub first : ℕ
  pub more : ℕ
  pub was : before ≡ others ++ record { first = first; sets = suc more } ∷ []
  pub is : after ≡ others ++ record { first = first; sets = suc (suc more) } ∷ []
  pub reaches : first + suc more ≡ end

-- All sets go on with the stretch before them, and no other begins.
record GoesOn (n : ℕ) (sets : List Bool) : Type 0 where
  all : run sets ≡ length sets
  all_next : run (sets ++ true ∷ []) ≡ suc (length sets)
  none : stretches_from n true sets ≡ []
  none_next : stretches_from n true (sets ++ true ∷ []) ≡ []

-- The stretch before the sets has ended, and a later one grows.
record GrowsLater (n : ℕ) (sets : List Bool) : Type 0 where
  same : run (sets ++ true ∷ []) ≡ run sets
  grows : Grows (stretches_from n true sets) (stretches_from n true (sets ++ true ∷ [])) (n + length sets)

-- What one more set at or past the limit does, where the newest of the sets, or the set before them, is one too.
record Goes (sets : List Bool) : Type 0 where
  outside : (n : ℕ) → past_after false sets ≡ true → Grows (stretches_from n false sets) (stretches_from n false (sets ++ true ∷ [])) (n + length sets)
  inside : (n : ℕ) → past_after true sets ≡ true → GoesOn n sets ⊎ GrowsLater n sets

goes : (sets : List Bool) → Goes sets
goes [] = record {
  outside = λ n h. absurd (false≢true h);
  inside = λ n h. inl (record { all = refl; all_next = refl; none = refl; none_next = refl });
}
goes (false ∷ sets) = record {
  outside = λ n h. rw (shift n (length sets)) ((goes sets).outside (n + 1) h);
  inside = λ n h. inr (record { same = refl; grows = rw (shift n (length sets)) ((goes sets).outside (n + 1) h) });
}
goes (true ∷ sets) = record {
  outside = λ n h. from_inside n ((goes sets).inside (n + 1) h);
  inside = λ n h. still_inside n ((goes sets).inside (n + 1) h);
}
  where
    from_inside : (n : ℕ) → GoesOn (n + 1) sets ⊎ GrowsLater (n + 1) sets
        → Grows (stretches_from n false (true ∷ sets)) (stretches_from n false (true ∷ sets ++ true ∷ [])) (n + suc (length sets))
    from_inside n (inl g) = record {
      others = [];
      first = n;
      more = length sets;
      was = rw (g.all, g.none);
      is = rw (g.all_next, g.none_next);
      reaches = refl;
    }
    from_inside n (inr g) = record {
      others = record { first = n; sets = suc (run sets) } ∷ g.grows.others;
      first = g.grows.first;
      more = g.grows.more;
      was = rw g.grows.was;
      is = rw (g.same, g.grows.is);
      reaches = omega (arith, g.grows.reaches);
    }

    still_inside : (n : ℕ) → GoesOn (n + 1) sets ⊎ GrowsLater (n + 1) sets → GoesOn n (true ∷ sets) ⊎ GrowsLater n (true ∷ sets)
    still_inside n (inl g) = inl (record { all = ap suc g.all; all_next = ap suc g.all_next; none = g.none; none_next = g.none_next })
    still_inside n (inr g) = inr (record { same = ap suc g.same; grows = rw (shift n (length sets)) g.grows })

-- After a set at or past the limit, another is one more of the same stretch.
pub stretch_grows : (n : ℕ) (sets : List Bool) → past_after false sets ≡ true
    → Grows (stretches_from n false sets) (stretches_from n false (sets ++ true ∷ [])) (n + length sets)
stretch_grows n sets h = (goes sets).outside n h
