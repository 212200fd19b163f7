-- "Writing: the v3 header, then blocks by ascending block number, each packed if that is shorter than 16,384 bytes, else FFFF.
-- The answer gives the file's length; output past it is set to zero."
use Rattle.std.specs.Prelude.{ℕ, ◌-◌, ◌≡◌, List, ◌++◌, length, replicate, eqb, leb, Err}
use Rattle.slices.specs.Choose.{choose}
use Rattle.spectrum.specs.declared.Machine.{Machine}
use Rattle.numbers.specs.declared.Refusal.{Refusal}
use Rattle.numbers.specs.declared.Refusal.TheVariants.{InvalidMachine, MemoryLength, OutputShort}
use Rattle.numbers.specs.Numbers.{Answer, accepted}
use Rattle.pages.specs.Pages.{slots}
use Rattle.spectrum.specs.Valid.{valid_of}
use Rattle.header_write.specs.Writing.{header_of}
use Rattle.blocks_write.specs.Laid.{laid}
use Rattle.z80write.specs.declared.Written.{Written}

-- the file: header, then blocks
abbrev pub file_of : Machine → List ℕ → List ℕ
file_of m area = header_of m ++ laid (slots m.model) area

-- what writing comes to: the answer, the file's length and the whole output
pub record WriteResult : Type 0 where
  pub answer : Answer
  pub size : ℕ
  pub out : List ℕ

-- "a refused write gives length 0 and an output all zero"
abbrev pub refused_write : Refusal → ℕ → WriteResult
refused_write why n = record { answer = Err why; size = 0; out = replicate n 0 }

abbrev pub accepted_write : List ℕ → ℕ → WriteResult
accepted_write file n = record { answer = accepted; size = length file; out = file ++ replicate (n - length file) 0 }

-- "Write: 20, 21, 22", into an output of n bytes
unfoldable pub written_of : Machine → List ℕ → ℕ → WriteResult
written_of m area n =
    choose (valid_of m)
    (choose (eqb (length area) 131072)
    (choose (leb (length (file_of m area)) n) (accepted_write (file_of m area) n) (refused_write OutputShort n))
    (refused_write MemoryLength n))
    (refused_write InvalidMachine n)

-- the promise of `write`: the answer, the length and every byte of the output
pub record Writes (o : WriteResult) (r : Written) (out : List ℕ) : Type 0 where
  pub answer : r.answer ≡ o.answer
  pub size : r.length ≡ o.size
  pub memory : out ≡ o.out
