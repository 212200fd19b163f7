-- A machine read off the blocks of an SCS file is valid, and as the types of the code say.
use Prim.Native.Nat.{ℕ, zero, suc, ◌+◌, ◌*◌, ◌%◌, ◌<◌}
use native.Mathlib.Omega.{arith}
use mathlib.Core.Path.{◌≡◌, refl}
use mathlib.Core.Bool.{true}
use mathlib.Core.List.{List, [], ◌∷◌}
use lib.ListN.{length, get_or, length-take, length-drop}
use lib.Dec.{ltb}
use borrow.Author.Tests.{lt-ltb}
use Rattle.slices.specs.Choose.{both}
use Rattle.slices.specs.Bytes.{at}
use Rattle.pages.specs.declared.Model.{Model}
use Rattle.pages.specs.declared.Model.TheVariants.{K48, K128}
use Rattle.spectrum.specs.Valid.{Typed, valid_of}
use Rattle.header_read.specs.Reading.{carried}
use Rattle.scs_machine.specs.ScsMachine.{scs_pairs, scs_mode, scs_switches, scs_machine}

-- of the tests for validity only these two do not compute
tests : (a b : ℕ) → (a % 4 ≡ 3 → ⊥) → both (ltb (a % 4) 3) (both (ltb (b % 8) 8) true) ≡ true
tests a b n = rw (lt-ltb (a % 4) 3 (omega arith), lt-ltb (b % 8) 8 (omega arith))

pub scs_valid : (model : Model) (cpu ports : List ℕ) → (scs_mode cpu ≡ 3 → ⊥) → valid_of (scs_machine model cpu ports) ≡ true
unfolding valid_of scs_machine scs_switches
scs_valid K48 cpu ports = tests (at cpu 26) (at ports 0)
scs_valid K128 cpu ports = tests (at cpu 26) (at ports 0)

-- a list of words
record AllWords (l : List ℕ) : Type 0 where
  small : (k : ℕ) → get_or l k 0 < 65536

none : AllWords []
none = record { small = λ k. omega arith }

module _ (cpu : List ℕ) (h : (i : ℕ) → get_or cpu i 0 < 256) where
  one_word : {l : List ℕ} (i j : ℕ) → AllWords l → AllWords ((at cpu i + 256 * at cpu j) ∷ l)
  one_word i j w = record { small = elim [ zero ↦ omega (arith, h i, h j) | suc k ↦ w.small k ] }

  scs_words : AllWords (scs_pairs cpu)
  unfolding scs_pairs
  scs_words =
      one_word 1 0 (one_word 3 2 (one_word 5 4 (one_word 7 6 (one_word 9 8 (one_word 11 10 (one_word 13 12 (one_word 15 14
      (one_word 16 17 (one_word 18 19 (one_word 22 23 (one_word 20 21 none)))))))))))

scs_pairs_count : (cpu : List ℕ) → length (scs_pairs cpu) ≡ 12
unfolding scs_pairs
scs_pairs_count cpu = refl

carried_small : (k : Model) (b : ℕ) → b < 256 → carried k b < 256
carried_small K48 b h = omega arith
carried_small K128 b h = h

pub scs_typed : (model : Model) (cpu ports : List ℕ) → ((i : ℕ) → get_or cpu i 0 < 256) → ((i : ℕ) → get_or ports i 0 < 256)
    → length ports ≡ 19 → Typed (scs_machine model cpu ports)
unfolding scs_machine
scs_typed model cpu ports c p l =
    record {
      pairs = (scs_words cpu c).small;
      count = scs_pairs_count cpu;
      r8 = c 25;
      out = carried_small model _ (p 1);
      sound = simp (length-take, length-drop) (omega arith);
      side = refl;
    }
