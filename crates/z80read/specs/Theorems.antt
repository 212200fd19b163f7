-- What is claimed of reading beyond the functions' contracts.
use Rattle.std.specs.Prelude.{ℕ, ◌<◌, ◌≤◌, ◌≡◌, List, length, get_or}
use Rattle.numbers.specs.Numbers.{accepted, number_of}
use Rattle.numbers.specs.Faults.{NamedPlace}
use Rattle.spectrum.specs.Valid.{Typed}
use Rattle.z80read.specs.Read.{read_of}

pub record Theorems : Type 0 where
  -- the place that is named with a number is in the file or at its end, 0 exactly for the numbers that name none, and for 14 the file's length
  pub read_place : (s : List ℕ) (n : ℕ) → NamedPlace (number_of (read_of s n).answer) (read_of s n).place (length s)
  -- of files of bytes:
  -- no accepted file is longer than a header and eight blocks of 65,534 bytes, with their heads
  pub read_most : (s : List ℕ) (n : ℕ) → ((i : ℕ) → get_or s i 0 < 256) → (read_of s n).answer ≡ accepted → length s ≤ 524382
  -- an accepted machine is as the types of the code say
  pub read_typed : (s : List ℕ) (n : ℕ) → ((i : ℕ) → get_or s i 0 < 256) → (read_of s n).answer ≡ accepted → Typed (read_of s n).machine
