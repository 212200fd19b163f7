-- Reading and writing over bytes: "there the machine crosses as the 86-byte v3 header that our writer makes for it".
use Rattle.std.specs.Prelude.{ℕ, ◌≡◌, List, replicate, eqb}
use Rattle.slices.specs.Choose.{choose}
use Rattle.numbers.specs.Numbers.{number_of}
use Rattle.header_canonical.specs.declared.DecodedHeader.{DecodedHeader}
use Rattle.header_write.specs.Writing.{header_of}
use Rattle.header_canonical.specs.Canonical.{decoded_of, bad_header}
use Rattle.z80read.specs.Read.{ReadResult, read_of}
use Rattle.z80write.specs.Written.{WriteResult, written_of}

-- what reading leaves: the number, the place in the file that is named with it, the area and the header
pub record ReadBytes : Type 0 where
  pub answer : ℕ
  pub place : ℕ
  pub area : List ℕ
  pub header : List ℕ

-- "A refused read leaves the blank machine's header there (zeros at another length)"
abbrev pub read_in_bytes : ReadResult → ReadBytes
read_in_bytes o = record { answer = number_of o.answer; place = o.place; area = o.memory; header = header_of o.machine }

-- the file read into an area of n bytes and a header of k bytes
unfoldable pub read_of_bytes : List ℕ → ℕ → ℕ → ReadBytes
read_of_bytes file n k =
    choose (eqb k 86) (read_in_bytes (read_of file n)) (record { answer = bad_header; place = 0; area = replicate n 0; header = replicate k 0 })

-- what writing leaves: the number, the length and the output
pub record WriteBytes : Type 0 where
  pub answer : ℕ
  pub size : ℕ
  pub out : List ℕ

abbrev pub written_in_bytes : WriteResult → WriteBytes
written_in_bytes o = record { answer = number_of o.answer; size = o.size; out = o.out }

-- "writing also if its bytes are none that our writer makes"
abbrev pub write_decoded : DecodedHeader → List ℕ → ℕ → WriteBytes
write_decoded t area n =
    choose t.canonical (written_in_bytes (written_of t.machine area n)) (record { answer = bad_header; size = 0; out = replicate n 0 })

-- the file of header and area into an output of n bytes
unfoldable pub write_of_bytes : List ℕ → List ℕ → ℕ → WriteBytes
write_of_bytes header area n = write_decoded (decoded_of header) area n

-- the promises: every number and byte is the definition's
pub record ReadsBytes (o : ReadBytes) (r p : ℕ) (a h : List ℕ) : Type 0 where
  pub answer : r ≡ o.answer
  pub place : p ≡ o.place
  pub area : a ≡ o.area
  pub header : h ≡ o.header

pub record WritesBytes (o : WriteBytes) (r n : ℕ) (d : List ℕ) : Type 0 where
  pub answer : r ≡ o.answer
  pub size : n ≡ o.size
  pub out : d ≡ o.out
