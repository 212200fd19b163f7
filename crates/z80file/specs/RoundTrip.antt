-- Demand 2, by value: reading, writing, and what is written read back.
use Rattle.std.specs.Prelude.{ℕ, ◌≡◌, true, List, take}
use Rattle.spectrum.specs.declared.Machine.{Machine}
use Rattle.spectrum.specs.Valid.{Typed, valid_of}
use Rattle.z80read.specs.Read.{ReadResult, accepted_read, read_of}
use Rattle.z80write.specs.Written.{WriteResult, written_of}
use Rattle.z80file.specs.Clean.{Clean}

-- the last sentence of demand 2, of a way to read and a way to write; it knows nothing of how either is defined. "For a valid machine whose
-- unused pages are zero, reading that file gives the machine and memory back."
abbrev pub BackOf : (List ℕ → ℕ → ReadResult) → (Machine → List ℕ → ℕ → WriteResult) → Type 0
BackOf read write =
    (m : Machine) (area : List ℕ) → Typed m → valid_of m ≡ true → Clean m.model area
    → read (take (write m area 131182).size (write m area 131182).out) 131072 ≡ accepted_read m area

-- DEMAND 2, of a way to read and a way to write
pub record FilesOf (read : List ℕ → ℕ → ReadResult) (write : Machine → List ℕ → ℕ → WriteResult) : Type 0 where
  -- "Reading accepts exactly the .Z80 files that document 01 describes, and gives the machine and memory it says."
  pub reads : (s : List ℕ) (n : ℕ) → read s n ≡ read_of s n
  -- "Writing gives the one file it lays down."
  pub writes : (m : Machine) (area : List ℕ) (n : ℕ) → write m area n ≡ written_of m area n
  pub back : BackOf read write
