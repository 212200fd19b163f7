-- Demand 2 of the exported calls: what is read can be written.
use Rattle.std.specs.Prelude.{ℕ, ◌≤◌, ◌≡◌, List, length, take}
use Rattle.file_bytes.specs.Files.{read_of_bytes, write_of_bytes, ReadsBytes, WritesBytes}
use Rattle.server_trips.specs.declared.Trip.{Trip}

-- what an accepted read gave, written: accepted, and the file reads as the same header and area
pub record WrittenAgain (r : Trip) (area head out : List ℕ) (size : ℕ) : Type 0 where
  pub written : r.written ≡ 0
  pub again : read_of_bytes (take size out) 131072 86 ≡ record { answer = 0; place = 0; area = area; header = head }

-- The promise of `read_then_write`, into an area of n bytes, a header of k and an output of l: on every input what the read, and the write of
-- what it left, come to. What is read can be written, with 131,182 bytes of output; and no accepted file is longer than 524,382 bytes.
pub record ReadsThenWrites (file : List ℕ) (n k l : ℕ) (r : Trip) (place : ℕ) (area head out : List ℕ) (size : ℕ) : Type 0 where
  pub first : ReadsBytes (read_of_bytes file n k) r.read place area head
  pub then_written : WritesBytes (write_of_bytes head area l) r.written size out
  pub rewritten : r.read ≡ 0 → 131182 ≤ l → WrittenAgain r area head out size
  pub most : r.read ≡ 0 → length file ≤ 524382
