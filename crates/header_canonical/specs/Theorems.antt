-- What is claimed of headers beyond the functions' contracts.
use Rattle.std.specs.Prelude.{ℕ, ◌<◌, ◌≡◌, true, List, ◌++◌, length, get_or}
use Rattle.slices.specs.Bytes.{at, bit_at, bit_of}
use Rattle.spectrum.specs.declared.Machine.{Machine}
use Rattle.header.specs.declared.Version.TheVariants.{V3}
use Rattle.header.specs.declared.Head.TheVariants.{Header}
use Rattle.header.specs.Heads.{head_of}
use Rattle.header_read.specs.Reading.{machine_of}
use Rattle.header_pieces.specs.Pieces.{chip_bit}
use Rattle.header_write.specs.Writing.{header_of, HeaderFor}
use Rattle.header_canonical.specs.Canonical.{decoded_of}

pub record Theorems : Type 0 where
  -- a valid machine's header, whatever follows it, reads as that machine
  pub head_back : (m : Machine) (head rest : List ℕ) → HeaderFor m head → head_of (head ++ rest) ≡ Header V3 m.model m.attachment
  pub machine_back : (m : Machine) (head rest : List ℕ) → HeaderFor m head → machine_of V3 m.model m.attachment (head ++ rest) ≡ m
  -- "the 86-byte v3 header"
  pub header_86 : (m : Machine) (head : List ℕ) → HeaderFor m head → length head ≡ 86
  -- "bytes that our writer makes" are exactly the headers of valid machines: these are taken as their machine, and no others
  pub decoded_back : (m : Machine) (head : List ℕ) → HeaderFor m head → decoded_of head ≡ record { canonical = true; machine = m }
  pub decoded_same : (s : List ℕ) → (decoded_of s).canonical ≡ true → s ≡ header_of (decoded_of s).machine
  pub decoded_is : (s : List ℕ) → ((i : ℕ) → get_or s i 0 < 256) → (decoded_of s).canonical ≡ true → HeaderFor (decoded_of s).machine s
  -- bit 2 of byte 37 is set exactly for a 48K machine with the sound chip: bytes of a 128K machine that have it are 20
  pub chip_mark : (s : List ℕ) → (decoded_of s).canonical ≡ true → bit_of (bit_at (at s 37) 4) ≡ chip_bit (decoded_of s).machine.model (decoded_of s).machine.chip
  -- two machines do not share a header
  pub one_machine : (m n : Machine) (head : List ℕ) → HeaderFor m head → HeaderFor n head → m ≡ n
