-- What is claimed of reading SCS files beyond the functions' contracts.
use Rattle.std.specs.Prelude.{ℕ, List, length}
use Rattle.numbers.specs.Numbers.{number_of}
use Rattle.numbers.specs.Faults.{NamedPlace}
use Rattle.scs_read.specs.ScsReads.{scs_read_of}

pub record Theorems : Type 0 where
  -- the place that is named with a number is in the file or at its end, and 0 exactly for the numbers that name none
  pub scs_read_place : (s : List ℕ) (n : ℕ) → NamedPlace (number_of (scs_read_of s n).answer) (scs_read_of s n).place (length s)
