-- Where reading and writing over bytes are accepted, they are reading and writing by value.
use Prim.Native.Nat.{ℕ}
use mathlib.Core.Path.{◌≡◌, refl, ap}
use mathlib.Core.Bool.{Bool, true, false}
use mathlib.Core.List.{List}
use native.Mathlib.Omega.{arith}
use lib.ListN.{replicate}
use lib.Dec.{eqb}
use Rattle.slices.specs.Choose.{choose}
use Rattle.spectrum.specs.declared.Machine.{Machine}
use Rattle.numbers.specs.Numbers.{accepted}
use Rattle.numbers.proofs.Numbers.{number_0}
use Rattle.header_canonical.specs.declared.DecodedHeader.{DecodedHeader}
use Rattle.header_canonical.specs.Canonical.{decoded_of, bad_header}
use Rattle.z80read.specs.Read.{ReadResult, read_of}
use Rattle.z80write.specs.Written.{written_of}
use Rattle.file_bytes.proofs.FileSteps.{read_through}
use Rattle.file_bytes.specs.Files.{ReadBytes, read_in_bytes, read_of_bytes, written_in_bytes, write_decoded, write_of_bytes}

-- a read whose number is 0 was accepted, by value
pub through_0 : (o : ReadResult) (n k : ℕ) → (read_through o n k).answer ≡ 0 → (o.answer ≡ accepted) × (read_through o n k ≡ read_in_bytes o)
through_0 o n k = go (eqb k 86)
  where
    z : Bool → ReadBytes
    z t = choose t (read_in_bytes o) (record { answer = bad_header; place = 0; area = replicate n 0; header = replicate k 0 })

    go : (t : Bool) → (z t).answer ≡ 0 → (o.answer ≡ accepted) × (z t ≡ read_in_bytes o)
    go true e = (number_0 _ e, refl)
    go false e = absurd (omega arith)

pub read_0 : (file : List ℕ) (n k : ℕ) → (read_of_bytes file n k).answer ≡ 0 → ((read_of file n).answer ≡ accepted) × (read_of_bytes file n k ≡ read_in_bytes (read_of file n))
unfolding read_of_bytes
read_0 file n k e = through_0 (read_of file n) n k e

-- the write of a header that is taken as m
pub write_decoded_as : (m : Machine) (head area : List ℕ) (n : ℕ) → decoded_of head ≡ record { canonical = true; machine = m }
    → write_of_bytes head area n ≡ written_in_bytes (written_of m area n)
unfolding write_of_bytes
write_decoded_as m head area n e = ap (λ (t : DecodedHeader). write_decoded t area n) e
