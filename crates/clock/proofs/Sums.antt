use Rattle.std.proofs.Common.{◌≡◌, ℕ, zero, suc, ◌+◌, ◌<◌, ◌≤◌, refl, ap, inl, inr, add-one, arith}
use Rattle.std.proofs.lemmas.Bool.{cases_lt, cases_order}
use Rattle.clock.specs.Elapsed.{sum_of_first}

-- One term more.
pub sum_more : (f : ℕ → ℕ) (n : ℕ) → sum_of_first f (n + 1) ≡ sum_of_first f n + f n
unfolding sum_of_first
sum_more f n = rw add-one refl

-- More terms give no less.
pub sum_le : (f : ℕ → ℕ) (m n : ℕ) → m ≤ n → sum_of_first f m ≤ sum_of_first f n
unfolding sum_of_first
sum_le f m zero h =
    let e : m ≡ 0 = omega arith in omega (arith, ap (sum_of_first f) e)
sum_le f m (suc n) h =
    elim (cases_lt n m) [
      | inl lt ↦ (let e : m ≡ suc n = omega arith in omega (arith, ap (sum_of_first f) e))
      | inr le ↦ omega (arith, sum_le f m n le)
    ]

-- A part that comes before another ends no later than that begins.
ends_before : (f : ℕ → ℕ) (a b i : ℕ) → a < b → i < f a → sum_of_first f a + i < sum_of_first f b
ends_before f a b i h k = omega (arith, sum_more f a, sum_le f (a + 1) b (omega arith))

-- A place in a row of parts of f 0, f 1 and so on stands in one part only.
pub one_part :
    (f : ℕ → ℕ) (a b i j : ℕ) → i < f a → j < f b → sum_of_first f a + i ≡ sum_of_first f b + j → a ≡ b
one_part f a b i j ia jb e =
    elim (cases_order a b) [
      | inl same ↦ same
      | inr (inl lt) ↦ omega (arith, ends_before f a b i lt ia)
      | inr (inr gt) ↦ omega (arith, ends_before f b a j gt jb)
    ]
