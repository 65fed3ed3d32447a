-- The division is linear over exclusive or, so that eight bits can be taken by one look into a table.
use Rattle.std.proofs.Common.{◌≡◌, ℕ, zero, suc, ◌+◌, ◌*◌, ◌/◌, ◌%◌, ◌^◌, ◌<◌, Bool, true, false, cond, eqb, sym, refl, ap, ◌∙◌, ap₂, add-zero, mod-eq_of_lt, pow-suc, zero-add, mul-one, arith}
use lib.Arith.{lt-one}
use lib.Bits.{bit_xor, xor_zero_r, xor_assoc, xor_comm, xor_self, xor_shr, xor_mod, xor_block, block_half, block_odd}
use lib.Pow.{split}
use Rattle.crc16.specs.Division.{lowest, low_bits, differ, taken, divided, remainder_of}

-- what is taken away where the bit that goes out differs from the bit that comes in
abbrev pub taken_away : Bool → ℕ
taken_away true = 0xA001
taken_away false = 0

pub taken_is : (r : ℕ) (b : Bool) → taken r b ≡ bit_xor (r / 2) (taken_away (differ (lowest r) b))
unfolding taken
taken_is r b =
    elim (differ (lowest r) b) as (λ (d : Bool). cond d (bit_xor (r / 2) 0xA001) (r / 2) ≡ bit_xor (r / 2) (taken_away d))
    [ true ↦ refl | false ↦ sym (xor_zero_r (r / 2)) ]

lowest_digits : (x y : ℕ) → x < 2 → y < 2 → eqb (bit_xor x y) 1 ≡ differ (eqb x 1) (eqb y 1)
lowest_digits zero zero p q = refl
lowest_digits zero (suc zero) p q = refl
lowest_digits (suc zero) zero p q = refl
lowest_digits (suc zero) (suc zero) p q = refl
lowest_digits zero (suc (suc y)) p q = absurd (omega arith)
lowest_digits (suc zero) (suc (suc y)) p q = absurd (omega arith)
lowest_digits (suc (suc x)) y p q = absurd (omega arith)

lowest_xor : (x y : ℕ) → lowest (bit_xor x y) ≡ differ (lowest x) (lowest y)
lowest_xor x y = ap (λ (n : ℕ). eqb n 1) (xor_mod x y 1) ∙ lowest_digits (x % 2) (y % 2) (omega arith) (omega arith)

-- bits that differ from bits that differ
differ4 : (p q a b : Bool) → differ (differ p q) (differ a b) ≡ differ (differ p a) (differ q b)
differ4 true true true b = refl
differ4 true true false true = refl
differ4 true true false false = refl
differ4 true false true true = refl
differ4 true false true false = refl
differ4 true false false b = refl
differ4 false true true true = refl
differ4 false true true false = refl
differ4 false true false b = refl
differ4 false false a b = refl

away_xor : (p q : Bool) → taken_away (differ p q) ≡ bit_xor (taken_away p) (taken_away q)
away_xor true true = refl
away_xor true false = refl
away_xor false q = refl

xor4 : (a b c d : ℕ) → bit_xor (bit_xor a b) (bit_xor c d) ≡ bit_xor (bit_xor a c) (bit_xor b d)
xor4 a b c d =
    xor_assoc a b (bit_xor c d) ∙ ap (bit_xor a) (sym (xor_assoc b c d) ∙ ap (λ (n : ℕ). bit_xor n d) (xor_comm b c) ∙ xor_assoc c b d)
    ∙ sym (xor_assoc a c (bit_xor b d))

taken_xor : (x y : ℕ) (a b : Bool) → taken (bit_xor x y) (differ a b) ≡ bit_xor (taken x a) (taken y b)
taken_xor x y a b =
    taken_is (bit_xor x y) (differ a b)
    ∙ ap₂ bit_xor (xor_shr x y 1)
    (ap (λ (l : Bool). taken_away (differ l (differ a b))) (lowest_xor x y) ∙ ap taken_away (differ4 (lowest x) (lowest y) a b)
    ∙ away_xor (differ (lowest x) a) (differ (lowest y) b))
    ∙ xor4 (x / 2) (y / 2) (taken_away (differ (lowest x) a)) (taken_away (differ (lowest y) b))
    ∙ sym (ap₂ bit_xor (taken_is x a) (taken_is y b))

-- registers and bits go through the division apart from one another
linear : (k x y a b : ℕ) → divided (bit_xor x y) (low_bits k (bit_xor a b)) ≡ bit_xor (divided x (low_bits k a)) (divided y (low_bits k b))
linear zero x y a b = refl
linear (suc k) x y a b =
    ap₂ (λ (r n : ℕ). divided r (low_bits k n)) (ap (taken (bit_xor x y)) (lowest_xor a b) ∙ taken_xor x y (lowest a) (lowest b)) (xor_shr a b 1)
    ∙ linear k (taken x (lowest a)) (taken y (lowest b)) (a / 2) (b / 2)

differ_self : (b : Bool) → differ b b ≡ false
differ_self true = refl
differ_self false = refl

-- a register whose low bits are those that come in is shifted by them, and nothing is taken away
pub shifted_out : (k h l : ℕ) → l < 2 ^ k → divided (h * 2 ^ k + l) (low_bits k l) ≡ h
shifted_out zero h l p = ap (λ (n : ℕ). h * 1 + n) (lt-one p) ∙ add-zero (h * 1) ∙ mul-one h
shifted_out (suc k) h l p =
    let even : differ (lowest (h * 2 ^ suc k + l)) (lowest l) ≡ false =
    ap (λ (n : ℕ). differ (eqb n 1) (lowest l)) (block_odd h k l) ∙ differ_self (lowest l) in
    ap (λ (r : ℕ). divided r (low_bits k (l / 2)))
    (taken_is (h * 2 ^ suc k + l) (lowest l) ∙ ap₂ (λ (n : ℕ) (d : Bool). bit_xor n (taken_away d)) (block_half h k l) even
    ∙ xor_zero_r (h * 2 ^ k + l / 2))
    ∙ shifted_out k h (l / 2) (omega (arith, pow-suc 2 k))

-- what is taken away twice is back
xor_twice : (a b : ℕ) → bit_xor (bit_xor a b) b ≡ a
xor_twice a b = xor_assoc a b b ∙ ap (bit_xor a) (xor_self b) ∙ xor_zero_r a

-- eight bits by one look into the table
pub by_byte : (r b : ℕ) → b < 256 → bit_xor (r / 256) (remainder_of (bit_xor r b % 256)) ≡ divided r (low_bits 8 b)
by_byte r b p =
    let h = r / 256 in
    let l = bit_xor r b % 256 in
    let low : bit_xor b l ≡ r % 256 =
    ap (bit_xor b) (xor_mod r b 8 ∙ ap (bit_xor (r % 256)) (mod-eq_of_lt p)) ∙ xor_comm b (bit_xor (r % 256) b) ∙ xor_twice (r % 256) b in
    let whole : bit_xor (h * 256 + b) l ≡ r =
    ap (bit_xor (h * 256 + b)) (sym (zero-add l)) ∙ xor_block 8 h 0 b l p (omega arith)
    ∙ ap₂ (λ (x y : ℕ). x * 256 + y) (xor_zero_r h) low ∙ split r 8 in
    sym (ap₂ (λ (x n : ℕ). divided x (low_bits 8 n)) (sym whole) (sym (xor_zero_r b)) ∙ linear 8 (h * 256 + b) l b 0
    ∙ ap (λ (x : ℕ). bit_xor x (remainder_of l)) (shifted_out 8 h b p))
