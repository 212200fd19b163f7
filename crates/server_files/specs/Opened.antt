-- Demand 3 of the exported calls, from a file that was opened: "an opened file is a start".
use Rattle.std.specs.Prelude.{ℕ, ◌≡◌, List, length}
use Rattle.spectrum.specs.State.{State}
use Rattle.file_bytes.specs.Files.{ReadBytes}
use Rattle.journal_bytes.specs.Calls.{Buffers}
use Rattle.server.specs.Server.{started_buffers, RanBytes, HistoryRun}

-- The promise of `serve_file` and `serve_scs`, where b is what the read leaves and w the machine and memory that the file gives: the number of
-- the read with its place, and every call on what it left; where that number is 0, all is the paper bench's from that machine and memory.
pub record ServesFile (b : ReadBytes) (w : State) (log encoded : List ℕ) (room r place : ℕ) (x : Buffers) (numbers : List ℕ) : Type 0 where
  pub answer : r ≡ b.answer
  pub place_told : place ≡ b.place
  pub ran : RanBytes encoded room (started_buffers b.header b.area (length log)) x numbers
  pub claim : r ≡ 0 → HistoryRun w (length log) encoded room x numbers
