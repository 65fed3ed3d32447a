-- What a counter of three bytes shows, and how it is stored.
use Rattle.std.specs.Prelude.{ℕ, ◌+◌, ◌*◌, ◌/◌, ◌%◌, min, List, [], ◌∷◌, get_or}

-- The counter of n counted things shows n, held at the highest number of three bytes.
abbrev pub counted : ℕ → ℕ
counted n = min n 0xFF_FFFF

-- The three bytes of a number, low byte first.
abbrev pub bytes_of : ℕ → List ℕ
bytes_of n = n % 256 ∷ n / 256 % 256 ∷ n / 65536 % 256 ∷ []

-- The number that three bytes store.
abbrev pub number_of : List ℕ → ℕ
number_of bytes = get_or bytes 0 0 + 256 * get_or bytes 1 0 + 65536 * get_or bytes 2 0
