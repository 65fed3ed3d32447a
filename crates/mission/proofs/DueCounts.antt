-- How many of the rollovers so far are due.
use Rattle.std.proofs.Common.{◌≡◌, ℕ, zero, suc, ◌+◌, ◌-◌, ◌*◌, ◌/◌, ◌%◌, ◌<◌, ◌≤◌, cond, eqb, ◌⊎◌, sym, ap, ◌∙◌, subst, inl, inr, add-zero, mod-lt, add-mul, zero-mul, add-one, arith}
use Rattle.std.specs.List.{range_with_len}
use Rattle.std.proofs.lemmas.Nat.{div-mul-add, div-add-mod'}
use Rattle.std.proofs.lemmas.List.FromFn.{sum_by-map-range_with_len_more}
use Rattle.std.proofs.lemmas.List.Sums.{sum-map}
use Rattle.std.proofs.lemmas.Bool.{cases_eq, cases_lt, eq-eqb, ne_eqb}
use Rattle.std.proofs.lemmas.Bool.Decides.{nat_tests}
use Rattle.mission.specs.Schedule.{due}
use Rattle.mission.specs.Sets.{sets_due, SetCount}
use Rattle.mission.proofs.Countdowns.{due_past}

-- One more rollover counts where it is due.
sets_due_more : (d r k : ℕ) → sets_due d r (k + 1) ≡ sets_due d r k + cond (due d r (k + 1)) 1 0
sets_due_more d r k =
    let f : ℕ → ℕ = λ i. cond (due d r i) 1 0 in
    sym (sum-map f (range_with_len 1 (k + 1)))
    ∙ sum_by-map-range_with_len_more (λ x. x) f 1 k (k + 1) (omega arith)
    ∙ ap (λ (n : ℕ). n + f (k + 1)) (sum-map f (range_with_len 1 k))

-- The quotient rounded up goes up by one where the remainder is 0.
quotient_more : (r m : ℕ) → 0 < r → (m % r ≡ 0) ⊎ (m % r ≡ 0 → ⊥) → (m + r) / r ≡ (m + r - 1) / r + cond (eqb (m % r) 0) 1 0
quotient_more r m pos (inl e) =
    let q : ℕ = m / r in
    let up : m + r ≡ (q + 1) * r + 0 = omega (arith, div-add-mod' m r, add-mul q 1 r) in
    let low : m + r - 1 ≡ q * r + (r - 1) = omega (arith, div-add-mod' m r) in
    ap (λ (n : ℕ). n / r) up ∙ div-mul-add (q + 1) r 0 pos
    ∙ sym (rw (low, div-mul-add q r (r - 1) (omega arith), eq-eqb (m % r) 0 e))
quotient_more r m pos (inr e) =
    let q : ℕ = m / r in
    let up : m + r ≡ (q + 1) * r + m % r = omega (arith, div-add-mod' m r, add-mul q 1 r) in
    let low : m + r - 1 ≡ (q + 1) * r + (m % r - 1) = omega (arith, div-add-mod' m r, add-mul q 1 r) in
    ap (λ (n : ℕ). n / r) up ∙ div-mul-add (q + 1) r (m % r) (mod-lt m pos)
    ∙ sym (rw (low, div-mul-add (q + 1) r (m % r - 1) (omega (arith, mod-lt m pos)), ne_eqb (m % r) 0 e) (add-zero (q + 1)))

-- So does the number of sample sets by its formula.
formula_more : (d r k : ℕ) → 0 < r → (k < d) ⊎ (d ≤ k) → (k + 1 - d + r - 1) / r ≡ (k - d + r - 1) / r + cond (due d r (k + 1)) 1 0
formula_more d r k pos (inl h) = grind (arith, nat_tests)
formula_more d r k pos (inr h) =
    let up : k + 1 - d + r - 1 ≡ k - d + r = omega arith in
    rw (up, due_past d r (k + 1) (k - d) (omega arith)) (quotient_more r (k - d) pos (cases_eq ((k - d) % r) 0))

pub set_count : SetCount
set_count d r zero pos =
    let e : 0 - d + r - 1 ≡ 0 * r + (r - 1) = omega (arith, zero-mul r) in
    sym (rw (e, div-mul-add 0 r (r - 1) (omega arith)))
set_count d r (suc k) pos =
    subst (λ (n : ℕ). sets_due d r n ≡ (n - d + r - 1) / r) (add-one k)
    (sets_due_more d r k ∙ rw (set_count d r k pos) (sym (formula_more d r k pos (cases_lt k d))))
