-- What unpacking into a lent part of n bytes answers and leaves there: the promise of `unpack`.
use Rattle.std.specs.Prelude.{ℕ, min, ◌≡◌, List, length, replicate, eqb}
use Rattle.slices.specs.Choose.{choose}
use Rattle.packed.specs.Packed.{Found, malformed, bytes}
use Rattle.packed.specs.declared.Unpacked.{Unpacked}
use Rattle.packed.specs.declared.Unpacked.TheVariants.{Good, WrongLength, Malformed}

-- a length, "counted no further than 65,536"
abbrev pub length_counted : ℕ → ℕ
length_counted n = min n 65536

-- malformed, and where, before the length is looked at; then the length, and what it is
abbrev pub answer_of : Found → ℕ → Unpacked
answer_of (malformed i) n = Malformed i
answer_of (bytes xs) n = choose (eqb (length xs) n) Good (WrongLength (length_counted (length xs)))

-- the bytes where the answer is Good, and zeros otherwise
abbrev pub left_by : Found → ℕ → List ℕ
left_by (malformed i) n = replicate n 0
left_by (bytes xs) n = choose (eqb (length xs) n) xs (replicate n 0)

-- the answer r and the part d of n bytes, where u is what the data stand for
pub record Unpacks (u : Found) (n : ℕ) (r : Unpacked) (d : List ℕ) : Type 0 where
  pub answer : r ≡ answer_of u n
  pub memory : d ≡ left_by u n
