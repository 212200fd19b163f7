-- Demand 2 of the exported calls: what is written reads back, header and area.
use Rattle.std.specs.Prelude.{ℕ, ◌≤◌, ◌≡◌, List, length, take}
use Rattle.spectrum.specs.declared.Machine.{Machine}
use Rattle.header_write.specs.Writing.{HeaderFor}
use Rattle.z80write.specs.Written.{file_of}
use Rattle.z80file.specs.Clean.{Clean}
use Rattle.file_bytes.specs.Files.{read_of_bytes, write_of_bytes, ReadsBytes, WritesBytes}
use Rattle.server_trips.specs.declared.Trip.{Trip}

-- both numbers are 0, no place is named, and what came back is what was written
pub record CameBack (head area : List ℕ) (r : Trip) (place : ℕ) (back_area back_head : List ℕ) : Type 0 where
  pub written : r.written ≡ 0
  pub read : r.read ≡ 0
  pub nowhere : place ≡ 0
  pub area_same : back_area ≡ area
  pub head_same : back_head ≡ head

-- The promise of `write_then_read`, into an output of n bytes, a second area of k and a second header of l: on every input what the write,
-- and the read of what it wrote, come to. "For a valid machine whose unused pages are zero, reading that file gives the machine and memory
-- back": from the header of any valid machine, with room for the file, both come back; 131,182 bytes are room for any (`file_most`).
pub record WritesThenReads (head area : List ℕ) (n k l : ℕ) (r : Trip) (out : List ℕ) (size place : ℕ) (back_area back_head : List ℕ) : Type 0 where
  pub first : WritesBytes (write_of_bytes head area n) r.written size out
  pub then_read : ReadsBytes (read_of_bytes (take size out) k l) r.read place back_area back_head
  pub back : (m : Machine) → HeaderFor m head → Clean m.model area → length (file_of m area) ≤ n → k ≡ 131072 → l ≡ 86 → CameBack head area r place back_area back_head
