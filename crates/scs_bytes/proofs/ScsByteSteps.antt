-- Reading and writing SCS files over bytes, at each return of the code.
use Prim.Native.Nat.{ℕ}
use mathlib.Core.Path.{◌≡◌}
use mathlib.Core.Bool.{true, false}
use mathlib.Core.List.{List, ◌++◌}
use lib.ListN.{length, drop, replicate}
use Rattle.std.specs.Prelude.{Err}
use Rattle.numbers.specs.declared.Refusal.TheVariants.{InvalidMachine}
use Rattle.numbers.specs.Numbers.{number_of}
use Rattle.header_canonical.specs.declared.DecodedHeader.{DecodedHeader}
use Rattle.header_write.specs.Writing.{header_of}
use Rattle.header_canonical.specs.Canonical.{decoded_of}
use Rattle.z80read.specs.declared.Opened.{Opened}
use Rattle.z80read.specs.Read.{Reads}
use Rattle.z80write.specs.declared.Written.{Written}
use Rattle.z80write.specs.Written.{Writes}
use Rattle.file_bytes.specs.Files.{ReadsBytes, WritesBytes}
use Rattle.file_bytes.proofs.FileSteps.{through_other, through_86, through_taken, through_none}
use Rattle.scs_read.specs.ScsReads.{scs_read_of}
use Rattle.scs_write.specs.ScsWritten.{scs_written_of}
use Rattle.scs_bytes.specs.ScsBytes.{scs_read_of_bytes, scs_write_of_bytes}

module _ (file before head : List ℕ) (r place : ℕ) where
  pub scs_read_other : (area zeros : List ℕ) → (length head ≡ 86 → ⊥) → area ≡ replicate (length before) 0 → zeros ≡ replicate (length head) 0
      → place ≡ 0 → r ≡ number_of (Err InvalidMachine) → ReadsBytes (scs_read_of_bytes file (length before) (length head)) r place area zeros
  unfolding scs_read_of_bytes
  scs_read_other area zeros h a z l e = through_other (scs_read_of file (length before)) before head r place area zeros h a z l e

  pub scs_read_86 : (area made : List ℕ) (x : Opened) → length head ≡ 86 → Reads (scs_read_of file (length before)) x area → made ≡ header_of x.machine ++ drop 86 head
      → place ≡ x.place → r ≡ number_of x.answer → ReadsBytes (scs_read_of_bytes file (length before) (length head)) r place area made
  unfolding scs_read_of_bytes
  scs_read_86 area made x h p q l e = through_86 (scs_read_of file (length before)) before head r place area made x h p q l e

module _ (head area before : List ℕ) (r size : ℕ) (out : List ℕ) (t : DecodedHeader) (et : t ≡ decoded_of head) where
  pub scs_write_taken : (w : Written) → t.canonical ≡ true → Writes (scs_written_of t.machine area (length before)) w out → size ≡ w.length → r ≡ number_of w.answer
      → WritesBytes (scs_write_of_bytes head area (length before)) r size out
  unfolding scs_write_of_bytes
  scs_write_taken w c g s e = rw (← et) (through_taken (scs_written_of t.machine area (length before)) t (length before) r size out w c g s e)

  pub scs_write_other : t.canonical ≡ false → out ≡ replicate (length before) 0 → size ≡ 0 → r ≡ number_of (Err InvalidMachine)
      → WritesBytes (scs_write_of_bytes head area (length before)) r size out
  unfolding scs_write_of_bytes
  scs_write_other c z s e = rw (← et) (through_none (scs_written_of t.machine area (length before)) t (length before) r size out c z s e)
