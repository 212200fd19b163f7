-- Reading and writing SCS files over bytes: the machine crosses as the 86-byte header that the .Z80 writer makes for it.
use Rattle.std.specs.Prelude.{ℕ, List, replicate, eqb}
use Rattle.slices.specs.Choose.{choose}
use Rattle.header_canonical.specs.declared.DecodedHeader.{DecodedHeader}
use Rattle.header_canonical.specs.Canonical.{decoded_of, bad_header}
use Rattle.file_bytes.specs.Files.{ReadBytes, WriteBytes, read_in_bytes, written_in_bytes}
use Rattle.scs_read.specs.ScsReads.{scs_read_of}
use Rattle.scs_write.specs.ScsWritten.{scs_written_of}

-- the file read into an area of n bytes and a header of k bytes
unfoldable pub scs_read_of_bytes : List ℕ → ℕ → ℕ → ReadBytes
scs_read_of_bytes file n k =
    choose (eqb k 86) (read_in_bytes (scs_read_of file n)) (record { answer = bad_header; place = 0; area = replicate n 0; header = replicate k 0 })

-- the file of a header's machine and area into an output of n bytes
abbrev pub scs_write_decoded : DecodedHeader → List ℕ → ℕ → WriteBytes
scs_write_decoded t area n =
    choose t.canonical (written_in_bytes (scs_written_of t.machine area n)) (record { answer = bad_header; size = 0; out = replicate n 0 })

unfoldable pub scs_write_of_bytes : List ℕ → List ℕ → ℕ → WriteBytes
scs_write_of_bytes header area n = scs_write_decoded (decoded_of header) area n
