-- What is claimed of packing beyond the functions' contracts: with these, all that stands above may rely on.
use Rattle.std.specs.Prelude.{ℕ, ◌+◌, ◌*◌, ◌/◌, ◌≤◌, ◌<◌, ◌≡◌, List, map, length}
use Rattle.packed.specs.Packed.{malformed, bytes, unpacked, packed}
use Rattle.packed.specs.Packed.Examples.{computed, expected, table, worst, mixed}

pub record Theorems : Type 0 where
  -- "unpacking the packed form of any list gives the list back"
  pub unpacked_packed : (xs : List ℕ) → unpacked (packed xs) ≡ bytes xs
  -- "A packed page has at most 27,306 bytes", and one has
  pub packed_short : (xs : List ℕ) → length (packed xs) ≤ length xs + 2 * ((length xs + 1) / 3)
  pub page_short : (xs : List ℕ) → length xs ≡ 16384 → length (packed xs) ≤ 27306
  pub longest : (length (worst 5461) ≡ 16384) × (length (packed (worst 5461)) ≡ 27306)
  -- a code of four bytes stands for one byte or more
  pub unpacked_long : (s xs : List ℕ) → unpacked s ≡ bytes xs → length s ≤ 4 * length xs
  -- a bad code starts among the data
  pub bad_inside : (s : List ℕ) (i : ℕ) → unpacked s ≡ malformed i → i < length s
  -- packing saves nothing of ED 00 ED 00 ..
  pub mixed_packed : (k : ℕ) → packed (mixed k) ≡ mixed k
  -- P1 to P11
  pub examples : map computed table ≡ map expected table
