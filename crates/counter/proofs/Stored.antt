-- A number stored in three bytes is read back, byte for byte.
use Prim.Native.Nat.{ℕ, ◌<◌}
use native.Mathlib.Omega.{arith}
use mathlib.Core.Path.{◌≡◌}
use mathlib.Core.List.{List, [], ◌∷◌}
use lib.ListN.{length, get_or}
use Rattle.counter.specs.Counting.{bytes_of, number_of}

pub stored : (bytes : List ℕ) (n : ℕ) → length bytes ≡ 3 → get_or bytes 0 0 < 256 → get_or bytes 1 0 < 256 → get_or bytes 2 0 < 256
    → n ≡ number_of bytes → bytes_of n ≡ bytes
stored [] n l a b c e = absurd (omega arith)
stored (x ∷ []) n l a b c e = absurd (omega arith)
stored (x ∷ y ∷ []) n l a b c e = absurd (omega arith)
stored (x ∷ y ∷ z ∷ []) n l a b c e = grind arith
stored (x ∷ y ∷ z ∷ w ∷ more) n l a b c e = absurd (omega arith)
