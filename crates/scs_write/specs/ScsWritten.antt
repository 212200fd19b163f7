-- "We write header (identity "ASCD", 0, 98), Memory, CPU (34 bytes), Ports (19), and five zero bytes: 88 bytes and the memory."
use Rattle.std.specs.Prelude.{ℕ, ◌/◌, ◌%◌, List, [], ◌∷◌, ◌++◌, length, replicate, eqb, leb}
use Rattle.slices.specs.Choose.{choose}
use Rattle.pages.specs.declared.Model.{Model}
use Rattle.numbers.specs.declared.Refusal.TheVariants.{InvalidMachine, MemoryLength, OutputShort}
use Rattle.spectrum.specs.declared.Machine.{Machine}
use Rattle.spectrum.specs.Valid.{valid_of}
use Rattle.z80write.specs.Written.{WriteResult, refused_write, accepted_write}
use Rattle.scs_blocks.specs.ScsIdentity.{sam_snap, hardware_of}
use Rattle.scs_pieces.specs.ScsPieces.{scs_cpu, scs_ports}
use Rattle.scs_memory.specs.ScsMemory.{scs_data}

-- "SamSnap!", "ASCD", 0, 98, the hardware's number
abbrev pub scs_header : Model → List ℕ
scs_header model = sam_snap ++ (0x41 ∷ 0x53 ∷ 0x43 ∷ 0x44 ∷ 0 ∷ 98 ∷ hardware_of model ∷ [])

-- a number in four bytes, the low one first
abbrev pub size_bytes : ℕ → List ℕ
size_bytes n = (n % 256) ∷ (n / 256 % 256) ∷ (n / 65536 % 256) ∷ (n / 16777216 % 256) ∷ []

-- a block: its number, its size, its data
abbrev pub scs_block : ℕ → List ℕ → List ℕ
scs_block number xs = number ∷ (size_bytes (length xs) ++ xs)

-- the file: Memory is block 3, CPU 1, Ports 2
unfoldable pub scs_file_of : Machine → List ℕ → List ℕ
scs_file_of m area =
    scs_header m.model ++ (scs_block 3 (scs_data m.model area) ++ (scs_block 1 (scs_cpu m) ++ (scs_block 2 (scs_ports m) ++ replicate 5 0)))

-- "Writing: 20, 21, 22", into an output of n bytes
unfoldable pub scs_written_of : Machine → List ℕ → ℕ → WriteResult
scs_written_of m area n =
    choose (valid_of m)
    (choose (eqb (length area) 131072)
    (choose (leb (length (scs_file_of m area)) n) (accepted_write (scs_file_of m area) n) (refused_write OutputShort n))
    (refused_write MemoryLength n))
    (refused_write InvalidMachine n)
