-- Counting down takes a sample set at the rollovers that are due.
use Rattle.std.proofs.Common.{◌≡◌, ℕ, ◌+◌, ◌-◌, ◌%◌, ◌<◌, Bool, cond, eqb, ltb, ◌⊎◌, ap, ◌∙◌, subst, inl, inr, mod-lt, mod-eq_of_lt, add-one, arith}
use native.Mathlib.Nat.{suc-mod, mod_self}
use Rattle.std.proofs.lemmas.Bool.{cases_eq, cases_order}
use Rattle.std.proofs.lemmas.Bool.Decides.{nat_tests}
use Rattle.mission.specs.Schedule.{due, Countdown, Stands, taken, ticked}

-- The next remainder: 0 after the last one, else one more.
mod_last : (r m : ℕ) → m % r + 1 ≡ r → (m + 1) % r ≡ 0
mod_last r m e = rw (add-one m, suc-mod m r, ← add-one (m % r), e) (mod_self r)

mod_more : (r m : ℕ) → m % r + 1 < r → (m + 1) % r ≡ m % r + 1
mod_more r m h = rw (add-one m, suc-mod m r, ← add-one (m % r)) (mod-eq_of_lt h)

-- What is left to pass over after k rollovers.
abbrev left : ℕ → ℕ → ℕ → ℕ
left d r k = cond (ltb d k) (r - 1 - (k - d - 1) % r) 0

pub due_past : (d r k m : ℕ) → k ≡ d + 1 + m → due d r k ≡ eqb (m % r) 0
due_past d r k m h = grind (arith, nat_tests)

-- One rollover moves the countdown and tells whether a sample set is due.
abbrev Rolls : ℕ → ℕ → ℕ → Type 0
Rolls d r k =
    (taken (record { delay = d - k; skip = left d r k; rate = r }) ≡ due d r (k + 1))
    × (ticked (record { delay = d - k; skip = left d r k; rate = r }) ≡ record { delay = d - (k + 1); skip = left d r (k + 1); rate = r })

rolls_waiting : (d r k : ℕ) → k < d → Rolls d r k
rolls_waiting d r k h = (grind (arith, nat_tests), grind (arith, nat_tests))

rolls_first : (d r : ℕ) → Rolls d r d
rolls_first d r = (grind (arith, nat_tests), grind (arith, nat_tests))

rolls_past : (d r k m : ℕ) → 0 < r → k ≡ d + 1 + m → (m % r + 1 ≡ r) ⊎ (m % r + 1 ≡ r → ⊥) → Rolls d r k
rolls_past d r k m pos h (inl last) =
    let next = mod_last r m last in (grind (arith, nat_tests), grind (arith, nat_tests))
rolls_past d r k m pos h (inr more) =
    let below : m % r + 1 < r = omega (arith, mod-lt m pos) in
    let next = mod_more r m below in (grind (arith, nat_tests), grind (arith, nat_tests))

rolls : (d r k : ℕ) → 0 < r → Rolls d r k
rolls d r k pos = elim (cases_order d k) [
  | inl same ↦ subst (Rolls d r) same (rolls_first d r)
  | inr (inl past) ↦ rolls_past d r k (k - d - 1) pos (omega arith) (cases_eq ((k - d - 1) % r + 1) r)
  | inr (inr waiting) ↦ rolls_waiting d r k waiting
]

-- One rollover of a schedule that stands k rollovers after the start: it takes a sample set exactly
-- when one is due, and then stands at k + 1.
pub rolled : (before after : Countdown) (answer : Bool) → 0 < before.rate → answer ≡ taken before → after ≡ ticked before
    → (d r k : ℕ) → Stands before d r k → (answer ≡ due d r (k + 1)) × Stands after d r (k + 1)
rolled before after answer pos a t d r k stands =
    let p : 0 < r = omega (arith, ap (λ (c : Countdown). c.rate) stands) in
    (a ∙ ap taken stands ∙ (rolls d r k p).0, t ∙ ap ticked stands ∙ (rolls d r k p).1)
