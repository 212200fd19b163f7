-- What is claimed of both readers over bytes beyond the functions' contracts.
use Rattle.std.specs.Prelude.{ℕ, List, length}
use Rattle.numbers.specs.Faults.{NamedPlace}
use Rattle.scs_bytes.specs.Readers.{ReadFormat, read_as}

pub record Theorems : Type 0 where
  -- of each reader: a named offset is at most the file's length, it is 0 exactly for the numbers that A2 does not name, and for 14 it is the
  -- file's length
  pub offset_in : (format : ReadFormat) (file : List ℕ) (n k : ℕ) → NamedPlace (read_as format file n k).answer (read_as format file n k).place (length file)
