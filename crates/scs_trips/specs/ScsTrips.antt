-- Demand 2 for SCS of the exported calls: what is written reads back as far as SCS keeps it, and what is read can be written.
use Rattle.std.specs.Prelude.{ℕ, ◌+◌, ◌≤◌, ◌≡◌, List, take}
use Rattle.spectrum.specs.declared.Machine.{Machine}
use Rattle.header_write.specs.Writing.{header_of, HeaderFor}
use Rattle.z80file.specs.Clean.{Clean}
use Rattle.file_bytes.specs.Files.{ReadsBytes, WritesBytes}
use Rattle.scs_file.specs.ScsKeeps.{scs_keeps}
use Rattle.scs_memory.specs.ScsMemory.{memory_size}
use Rattle.scs_bytes.specs.ScsBytes.{scs_read_of_bytes, scs_write_of_bytes}
use Rattle.server_trips.specs.declared.Trip.{Trip}

-- both numbers are 0, no place is named; the area came back, and the header of what SCS keeps of the machine
pub record CameBackKept (m : Machine) (area : List ℕ) (r : Trip) (place : ℕ) (back_area back_head : List ℕ) : Type 0 where
  pub written : r.written ≡ 0
  pub read : r.read ≡ 0
  pub nowhere : place ≡ 0
  pub area_same : back_area ≡ area
  pub head_kept : back_head ≡ header_of (scs_keeps m)

-- The promise of `write_then_read_scs`, into an output of n bytes, a second area of k and a second header of l: on every input what the write,
-- and the read of what it wrote, come to; from the header of any valid machine and a clean area, with room for the file, all that SCS keeps
-- comes back. The file has 88 bytes and the memory.
pub record ScsWritesThenReads (head area : List ℕ) (n k l : ℕ) (r : Trip) (out : List ℕ) (size place : ℕ) (back_area back_head : List ℕ) : Type 0 where
  pub first : WritesBytes (scs_write_of_bytes head area n) r.written size out
  pub then_read : ReadsBytes (scs_read_of_bytes (take size out) k l) r.read place back_area back_head
  pub back : (m : Machine) → HeaderFor m head → Clean m.model area → 88 + memory_size m.model ≤ n → k ≡ 131072 → l ≡ 86 → CameBackKept m area r place back_area back_head
  pub long : (m : Machine) → HeaderFor m head → r.written ≡ 0 → size ≡ 88 + memory_size m.model

-- what an accepted read gave, written: accepted, and the file reads as the same header and area
pub record ScsWrittenAgain (r : Trip) (area head out : List ℕ) (size : ℕ) : Type 0 where
  pub written : r.written ≡ 0
  pub again : scs_read_of_bytes (take size out) 131072 86 ≡ record { answer = 0; place = 0; area = area; header = head }

-- The promise of `read_then_write_scs`, into an area of n bytes, a header of k and an output of l: on every input what the read, and the write of
-- what it left, come to. What is read can be written, with 131,160 bytes of output, and nothing is lost.
pub record ScsReadsThenWrites (file : List ℕ) (n k l : ℕ) (r : Trip) (place : ℕ) (area head out : List ℕ) (size : ℕ) : Type 0 where
  pub first : ReadsBytes (scs_read_of_bytes file n k) r.read place area head
  pub then_written : WritesBytes (scs_write_of_bytes head area l) r.written size out
  pub rewritten : r.read ≡ 0 → 131160 ≤ l → ScsWrittenAgain r area head out size
