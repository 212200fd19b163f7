-- "demand 2 covers SCS with these exceptions", by value.
use Rattle.std.specs.Prelude.{ℕ, ◌≡◌, true, List, take}
use Rattle.spectrum.specs.declared.Machine.{Machine}
use Rattle.spectrum.specs.Valid.{Typed, valid_of}
use Rattle.z80read.specs.Read.{ReadResult, accepted_read}
use Rattle.z80write.specs.Written.{WriteResult}
use Rattle.z80file.specs.Clean.{Clean}
use Rattle.scs_file.specs.ScsKeeps.{scs_keeps}

-- DEMAND 2 FOR SCS, of a way to read and a way to write; it knows nothing of how either is defined. For a valid machine whose unused pages are
-- zero, reading the written file gives what SCS keeps of the machine, and the memory. No file is longer than 131,160 bytes.
abbrev pub ScsBackOf : (List ℕ → ℕ → ReadResult) → (Machine → List ℕ → ℕ → WriteResult) → Type 0
ScsBackOf read write =
    (m : Machine) (area : List ℕ) → Typed m → valid_of m ≡ true → Clean m.model area
    → read (take (write m area 131160).size (write m area 131160).out) 131072 ≡ accepted_read (scs_keeps m) area
