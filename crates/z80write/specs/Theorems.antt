-- What is claimed of writing beyond the functions' contracts.
use Rattle.std.specs.Prelude.{ℕ, ◌≤◌, ◌≡◌, true, List, ◌∷◌, length}
use Rattle.packed.specs.Packed.{packed}
use Rattle.packed.specs.Packed.Examples.{mixed}
use Rattle.spectrum.specs.declared.Machine.{Machine}
use Rattle.pages.specs.declared.Model.TheVariants.{K128}
use Rattle.numbers.specs.Numbers.{accepted}
use Rattle.spectrum.specs.Valid.{Typed, valid_of}
use Rattle.block_write.specs.BlockFor.{block_for}
use Rattle.z80write.specs.Written.{file_of, accepted_write, written_of}

pub record Theorems : Type 0 where
  -- "shorter than 16,384 bytes, else FFFF": a page that packs to exactly 16,384 bytes goes plain
  pub exactly_16384 : (number : ℕ) → length (packed (mixed 8192)) ≡ 16384 × block_for number (mixed 8192) ≡ 255 ∷ 255 ∷ number ∷ mixed 8192
  -- no file is longer than 86 + 8 * 16,387 bytes, and one is as long
  pub file_most : (m : Machine) (area : List ℕ) → Typed m → length (file_of m area) ≤ 131182
  pub longest_file : (m : Machine) → Typed m → m.model ≡ K128 → length (mixed 65536) ≡ 131072 × length (file_of m (mixed 65536)) ≡ 131182
  -- so an output of that length is never too short; and an exact fit is taken
  pub never_short : (m : Machine) (area : List ℕ) (n : ℕ) → Typed m → valid_of m ≡ true → length area ≡ 131072 → 131182 ≤ n
      → (written_of m area n).answer ≡ accepted
  pub exact_fit : (m : Machine) (area : List ℕ) → valid_of m ≡ true → length area ≡ 131072
      → written_of m area (length (file_of m area)) ≡ accepted_write (file_of m area) (length (file_of m area))
