-- Bytes, words and bits. "Multi-byte numbers have their low byte first."
use Rattle.std.specs.Prelude.{ℕ, ◌+◌, ◌*◌, ◌/◌, ◌%◌, Bool, true, false, List, get_or, eqb}

abbrev pub at : List ℕ → ℕ → ℕ
at s i = get_or s i 0

abbrev pub word_at : List ℕ → ℕ → ℕ
word_at s i = at s i + 256 * at s (i + 1)

abbrev pub low_byte : ℕ → ℕ
low_byte n = n % 256

abbrev pub high_byte : ℕ → ℕ
high_byte n = n / 256 % 256

-- bit k of a byte, for 2 ^ k
abbrev pub bit_at : ℕ → ℕ → Bool
bit_at b power = eqb (b / power % 2) 1

abbrev pub bit_of : Bool → ℕ
bit_of true = 1
bit_of false = 0
