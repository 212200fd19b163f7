-- Reading and writing over bytes, at each return of the code: of any way to read and any way to write, and of .Z80 files.
use Prim.Native.Nat.{ℕ}
use native.Mathlib.Omega.{arith}
use mathlib.Core.Path.{◌≡◌, ap, ◌∙◌}
use mathlib.Core.Bool.{true, false}
use mathlib.Core.List.{List, ◌++◌, append-nil}
use lib.ListN.{length, drop, replicate, drop_of_length-le}
use lib.Dec.{eqb}
use borrow.Author.Tests.{eq-eqb, ne_eqb}
use Rattle.std.specs.Prelude.{Err}
use Rattle.slices.specs.Choose.{choose}
use Rattle.numbers.specs.declared.Refusal.TheVariants.{InvalidMachine}
use Rattle.numbers.specs.Numbers.{number_of}
use Rattle.header_canonical.specs.declared.DecodedHeader.{DecodedHeader}
use Rattle.header_write.specs.Writing.{header_of}
use Rattle.header_canonical.specs.Canonical.{decoded_of, bad_header}
use Rattle.z80read.specs.declared.Opened.{Opened}
use Rattle.z80read.specs.Read.{ReadResult, read_of, Reads}
use Rattle.z80write.specs.declared.Written.{Written}
use Rattle.z80write.specs.Written.{WriteResult, written_of, Writes}
use Rattle.file_bytes.specs.Files.{ReadBytes, read_in_bytes, read_of_bytes, ReadsBytes, WriteBytes, written_in_bytes, write_of_bytes, WritesBytes}

-- what a read came to, over an area of n bytes and a header of k
abbrev pub read_through : ReadResult → ℕ → ℕ → ReadBytes
read_through o n k = choose (eqb k 86) (read_in_bytes o) (record { answer = bad_header; place = 0; area = replicate n 0; header = replicate k 0 })

module _ (o : ReadResult) (before head : List ℕ) (r place : ℕ) where
  pub through_other : (area zeros : List ℕ) → (length head ≡ 86 → ⊥) → area ≡ replicate (length before) 0 → zeros ≡ replicate (length head) 0 → place ≡ 0 → r ≡ number_of (Err InvalidMachine)
      → ReadsBytes (read_through o (length before) (length head)) r place area zeros
  through_other area zeros h a z l e = rw (ne_eqb (length head) 86 h) (record { answer = e; place = l; area = a; header = z })

  pub through_86 : (area made : List ℕ) (x : Opened) → length head ≡ 86 → Reads o x area → made ≡ header_of x.machine ++ drop 86 head
      → place ≡ x.place → r ≡ number_of x.answer → ReadsBytes (read_through o (length before) (length head)) r place area made
  through_86 area made x h p q l e =
      rw (eq-eqb (length head) 86 h)
      (record {
        answer = e ∙ ap number_of p.leaves.answer;
        place = l ∙ p.leaves.place;
        area = p.leaves.memory;
        header = q ∙ ap (λ (l : List ℕ). header_of x.machine ++ l) (drop_of_length-le head {i = 86} (omega arith)) ∙ append-nil (header_of x.machine) ∙ ap header_of p.leaves.machine;
      })

-- what a write came to, for a header that was decoded, into an output of n bytes
abbrev pub write_through : DecodedHeader → WriteResult → ℕ → WriteBytes
write_through t o n = choose t.canonical (written_in_bytes o) (record { answer = bad_header; size = 0; out = replicate n 0 })

module _ (o : WriteResult) (t : DecodedHeader) (n r size : ℕ) (out : List ℕ) where
  pub through_taken : (w : Written) → t.canonical ≡ true → Writes o w out → size ≡ w.length → r ≡ number_of w.answer → WritesBytes (write_through t o n) r size out
  through_taken w c g s e = rw c (record { answer = e ∙ ap number_of g.answer; size = s ∙ g.size; out = g.memory })

  pub through_none : t.canonical ≡ false → out ≡ replicate n 0 → size ≡ 0 → r ≡ number_of (Err InvalidMachine) → WritesBytes (write_through t o n) r size out
  through_none c z s e = rw c (record { answer = e; size = s; out = z })

-- .Z80 files
module _ (file before head : List ℕ) (r place : ℕ) where
  pub read_other : (area zeros : List ℕ) → (length head ≡ 86 → ⊥) → area ≡ replicate (length before) 0 → zeros ≡ replicate (length head) 0 → place ≡ 0 → r ≡ number_of (Err InvalidMachine)
      → ReadsBytes (read_of_bytes file (length before) (length head)) r place area zeros
  unfolding read_of_bytes
  read_other area zeros h a z l e = through_other (read_of file (length before)) before head r place area zeros h a z l e

  pub read_86 : (area made : List ℕ) (x : Opened) → length head ≡ 86 → Reads (read_of file (length before)) x area → made ≡ header_of x.machine ++ drop 86 head
      → place ≡ x.place → r ≡ number_of x.answer → ReadsBytes (read_of_bytes file (length before) (length head)) r place area made
  unfolding read_of_bytes
  read_86 area made x h p q l e = through_86 (read_of file (length before)) before head r place area made x h p q l e

module _ (head area before : List ℕ) (r size : ℕ) (out : List ℕ) (t : DecodedHeader) (et : t ≡ decoded_of head) where
  pub write_taken : (w : Written) → t.canonical ≡ true → Writes (written_of t.machine area (length before)) w out → size ≡ w.length → r ≡ number_of w.answer
      → WritesBytes (write_of_bytes head area (length before)) r size out
  unfolding write_of_bytes
  write_taken w c g s e = rw (← et) (through_taken (written_of t.machine area (length before)) t (length before) r size out w c g s e)

  pub write_other : t.canonical ≡ false → out ≡ replicate (length before) 0 → size ≡ 0 → r ≡ number_of (Err InvalidMachine)
      → WritesBytes (write_of_bytes head area (length before)) r size out
  unfolding write_of_bytes
  write_other c z s e = rw (← et) (through_none (written_of t.machine area (length before)) t (length before) r size out c z s e)
