-- A file written, at each return of the code.
use Prim.Native.Nat.{ℕ, ◌+◌, ◌-◌, ◌≤◌, ◌<◌}
use native.Mathlib.Omega.{arith}
use mathlib.Core.Path.{◌≡◌, sym, ap, ◌∙◌}
use mathlib.Core.Bool.{Bool, true, false}
use mathlib.Core.List.{List, ◌++◌}
use lib.ListN.{length, replicate}
use borrow.Author.Tests.{le-leb, lt-leb, eq-eqb, ne_eqb}
use Rattle.pages.specs.declared.Model.{Model}
use Rattle.pages.specs.declared.Model.TheVariants.{K48, K128}
use Rattle.numbers.specs.declared.Refusal.TheVariants.{InvalidMachine, MemoryLength, OutputShort}
use Rattle.numbers.specs.Numbers.{accepted}
use Rattle.spectrum.specs.declared.Machine.{Machine}
use Rattle.spectrum.specs.Valid.{Typed, valid_of}
use Rattle.z80write.specs.declared.Written.{Written}
use Rattle.z80write.specs.Written.{refused_write, accepted_write, Writes}
use Rattle.scs_memory.specs.ScsMemory.{memory_size}
use Rattle.scs_write.specs.ScsWritten.{scs_file_of, scs_written_of}
use Rattle.scs_write.proofs.ScsFiles.{scs_file_long}

pub size_small : (model : Model) (n : ℕ) → n ≡ memory_size model → n ≤ 131072
size_small K48 n e = omega arith
size_small K128 n e = omega arith

-- an output with room for the file
pub scs_fits : (m : Machine) (area : List ℕ) (n : ℕ) → valid_of m ≡ true → length area ≡ 131072 → length (scs_file_of m area) ≤ n
    → scs_written_of m area n ≡ accepted_write (scs_file_of m area) n
unfolding scs_written_of
scs_fits m area n v l h = rw (v, eq-eqb (length area) 131072 l, le-leb (length (scs_file_of m area)) n h)

pub scs_exact_fit : (m : Machine) (area : List ℕ) → valid_of m ≡ true → length area ≡ 131072
    → scs_written_of m area (length (scs_file_of m area)) ≡ accepted_write (scs_file_of m area) (length (scs_file_of m area))
scs_exact_fit m area v l = scs_fits m area (length (scs_file_of m area)) v l (omega arith)

module _ (m : Machine) (area : List ℕ) (n : ℕ) (r : Written) (out : List ℕ) (b : Bool) (eb : b ≡ valid_of m) where
  pub scs_not_valid : b ≡ false → Writes (refused_write InvalidMachine n) r out → Writes (scs_written_of m area n) r out
  unfolding scs_written_of
  scs_not_valid q h = rw (← eb, q) h

  pub scs_no_memory : b ≡ true → (length area ≡ 131072 → ⊥) → Writes (refused_write MemoryLength n) r out → Writes (scs_written_of m area n) r out
  unfolding scs_written_of
  scs_no_memory q l h = rw (← eb, q, ne_eqb (length area) 131072 l) h

  module _ (t : Typed m) (q : b ≡ true) (l : length area ≡ 131072) (k : ℕ) (ek : k ≡ memory_size m.model) where
    long_is : length (scs_file_of m area) ≡ 88 + k
    long_is = scs_file_long m area t l ∙ ap (λ (j : ℕ). 88 + j) (sym ek)

    pub scs_short : n < 88 + k → Writes (refused_write OutputShort n) r out → Writes (scs_written_of m area n) r out
    unfolding scs_written_of
    scs_short s h = rw (← eb, q, eq-eqb (length area) 131072 l, lt-leb (length (scs_file_of m area)) n (omega (arith, long_is))) h

    pub scs_done : 88 + k ≤ n → out ≡ scs_file_of m area ++ replicate (n - length (scs_file_of m area)) 0 → r ≡ record { answer = accepted; length = 88 + k }
        → Writes (scs_written_of m area n) r out
    scs_done s h e =
        rw (scs_fits m area n (sym eb ∙ q) l (omega (arith, long_is)))
        (record { answer = ap (λ (x : Written). x.answer) e; size = ap (λ (x : Written). x.length) e ∙ sym long_is; memory = h })
