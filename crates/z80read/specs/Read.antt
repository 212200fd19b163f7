-- Reading a .Z80 file: "1, 2 (30 bytes), the version, 2 (32 bytes), 3, 2 (whole header), 4, 5, 6, 7; then block by block 8, 9, 10, 11,
-- 12; last 13. v1 goes 4, 5, then 14, 11, 12."
use Rattle.std.specs.Prelude.{ℕ, ◌≡◌, true, List, drop, replicate, eqb, Err}
use Rattle.slices.specs.Choose.{choose}
use Rattle.slices.specs.Blank.{blank}
use Rattle.spectrum.specs.declared.Machine.{Machine}
use Rattle.pages.specs.declared.Model.{Model}
use Rattle.numbers.specs.declared.FileFault.{FileFault}
use Rattle.numbers.specs.declared.Refusal.TheVariants.{AreaLength}
use Rattle.numbers.specs.Numbers.{Answer, accepted}
use Rattle.numbers.specs.Faults.{unplaced}
use Rattle.spectrum.specs.Machine.{blank_machine}
use Rattle.spectrum.specs.Valid.{valid_of}
use Rattle.header.specs.declared.Version.{Version}
use Rattle.header.specs.declared.Version.TheVariants.{V1, V2, V3}
use Rattle.header.specs.declared.Head.{Head}
use Rattle.header.specs.declared.Head.TheVariants.{Header}
use Rattle.slices.specs.Bytes.{bit_at}
use Rattle.header.specs.Heads.{byte12_of, head_of}
use Rattle.header_read.specs.Reading.{machine_of}
use Rattle.blocks.specs.Blocks.{BodyResult, body_refused, body_read, blocks_into}
use Rattle.body_v1.specs.Body.{body_into}
use Rattle.z80read.specs.declared.Opened.{Opened}

-- what follows the header, read into an area; "In v1 only .. bit 5 says packed"
abbrev pub memory_into : Version → Model → List ℕ → List ℕ → BodyResult
memory_into V1 model area s = body_into (bit_at (byte12_of s) 32) area 30 (drop 30 s)
memory_into V2 model area s = blocks_into model area 55 (drop 55 s)
memory_into V3 model area s = blocks_into model area 86 (drop 86 s)

-- what reading comes to: the answer, the place in the file that is named with it, the machine and the whole area
pub record ReadResult : Type 0 where
  pub answer : Answer
  pub place : ℕ
  pub machine : Machine
  pub memory : List ℕ

-- "A refused read gives the blank machine and an area all zero", of n bytes
abbrev pub refused_read : FileFault → ℕ → ReadResult
refused_read fault n = record { answer = Err fault.why; place = fault.place; machine = blank_machine; memory = replicate n 0 }

-- an accepted file has no place to name: "0 elsewhere"
abbrev pub accepted_read : Machine → List ℕ → ReadResult
accepted_read m area = record { answer = accepted; place = 0; machine = m; memory = area }

abbrev pub after_body : BodyResult → Machine → ℕ → ReadResult
after_body (body_refused fault) m n = refused_read fault n
after_body (body_read area) m n = accepted_read m area

-- "An accepted read sets pages that the machine does not own to zero": the pages are laid over zeros
abbrev pub after_head : Head → List ℕ → ℕ → ReadResult
after_head (Head.Refused fault) s n = refused_read fault n
after_head (Header version model attachment) s n = after_body (memory_into version model (blank 131072) s) (machine_of version model attachment s) n

-- the file s read into an area of n bytes: nothing but its length is known of the area
unfoldable pub read_of : List ℕ → ℕ → ReadResult
read_of s n = choose (eqb n 131072) (after_head (head_of s) s n) (refused_read (unplaced AreaLength) n)

-- the answer, the place, the machine and every byte of the area are the result's
pub record ReadLeaves (o : ReadResult) (r : Opened) (area : List ℕ) : Type 0 where
  pub answer : r.answer ≡ o.answer
  pub place : r.place ≡ o.place
  pub machine : r.machine ≡ o.machine
  pub memory : area ≡ o.memory

-- the promise of `read`: these, and an accepted machine is valid
pub record Reads (o : ReadResult) (r : Opened) (area : List ℕ) : Type 0 where
  pub leaves : ReadLeaves o r area
  pub valid : r.answer ≡ accepted → valid_of r.machine ≡ true
