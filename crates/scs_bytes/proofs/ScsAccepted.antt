-- Where reading and writing SCS files over bytes are accepted, they are reading and writing by value.
use Prim.Native.Nat.{ℕ}
use mathlib.Core.Path.{◌≡◌, ap}
use mathlib.Core.Bool.{true}
use mathlib.Core.List.{List}
use Rattle.spectrum.specs.declared.Machine.{Machine}
use Rattle.numbers.specs.Numbers.{accepted}
use Rattle.header_canonical.specs.declared.DecodedHeader.{DecodedHeader}
use Rattle.header_canonical.specs.Canonical.{decoded_of}
use Rattle.file_bytes.specs.Files.{read_in_bytes, written_in_bytes}
use Rattle.file_bytes.proofs.AcceptedBytes.{through_0}
use Rattle.scs_read.specs.ScsReads.{scs_read_of}
use Rattle.scs_write.specs.ScsWritten.{scs_written_of}
use Rattle.scs_bytes.specs.ScsBytes.{scs_read_of_bytes, scs_write_decoded, scs_write_of_bytes}

pub scs_read_0 : (file : List ℕ) (n k : ℕ) → (scs_read_of_bytes file n k).answer ≡ 0 → ((scs_read_of file n).answer ≡ accepted) × (scs_read_of_bytes file n k ≡ read_in_bytes (scs_read_of file n))
unfolding scs_read_of_bytes
scs_read_0 file n k e = through_0 (scs_read_of file n) n k e

pub scs_write_as : (m : Machine) (head area : List ℕ) (n : ℕ) → decoded_of head ≡ record { canonical = true; machine = m }
    → scs_write_of_bytes head area n ≡ written_in_bytes (scs_written_of m area n)
unfolding scs_write_of_bytes
scs_write_as m head area n e = ap (λ (t : DecodedHeader). scs_write_decoded t area n) e
