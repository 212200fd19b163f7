-- Both readers over bytes, by their format.
use Rattle.std.specs.Prelude.{ℕ, List}
use Rattle.file_bytes.specs.Files.{ReadBytes, read_of_bytes}
use Rattle.scs_bytes.specs.ScsBytes.{scs_read_of_bytes}

-- the formats that are read
pub data ReadFormat : Type 0 where
  z80 : ReadFormat
  scs : ReadFormat

-- a file of a format read into an area of n bytes and a header of k bytes
abbrev pub read_as : ReadFormat → List ℕ → ℕ → ℕ → ReadBytes
read_as z80 file n k = read_of_bytes file n k
read_as scs file n k = scs_read_of_bytes file n k
