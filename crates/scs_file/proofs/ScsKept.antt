-- What SCS keeps of a machine: its blocks give that back, and of a machine that SCS read it is all.
use Prim.Native.Nat.{ℕ, zero, suc, ◌+◌, ◌*◌, ◌%◌, ◌<◌}
use native.Mathlib.Omega.{arith}
use native.Mathlib.Nat.{mod-mod, mod-eq_of_lt}
use mathlib.Core.Path.{◌≡◌, sym}
use mathlib.Core.Bool.{true, false}
use mathlib.Core.List.{List, [], ◌∷◌}
use lib.ListN.{length, get_or, drop, drop_of_length-le}
use lib.Seq.{drop-cons, take_all}
use Rattle.slices.specs.Bytes.{low_byte, high_byte, bit_of}
use Rattle.pages.specs.declared.Model.{Model}
use Rattle.spectrum.specs.declared.Machine.{Machine}
use Rattle.spectrum.specs.declared.Attachment.TheVariants.{Nothing}
use Rattle.spectrum.specs.Valid.{Typed, Valid, valid_of}
use Rattle.spectrum.proofs.Validity.{valid_says}
use Rattle.header_read.specs.Reading.{no_side}
use Rattle.header_canonical.proofs.MachineBack.{word_back, carried_back, first_bit, second_bit}
use Rattle.scs_machine.specs.ScsMachine.{scs_pairs, scs_switches, scs_machine}
use Rattle.scs_pieces.specs.ScsPieces.{scs_cpu, scs_ports}
use Rattle.scs_file.specs.ScsKeeps.{scs_keeps}

-- n words from i on, each made again of its bytes
abbrev again : ℕ → ℕ → List ℕ → List ℕ
again zero i l = []
again (suc n) i l = (low_byte (get_or l i 0) + 256 * high_byte (get_or l i 0)) ∷ again n (suc i) l

words_back : (l : List ℕ) → ((k : ℕ) → get_or l k 0 < 65536) → (n i : ℕ) → i + n ≡ length l → again n i l ≡ drop i l
words_back l h zero i e = sym (drop_of_length-le l {i = i} (omega arith))
words_back l h (suc n) i e = rw (drop-cons l i 0 (omega arith)) (λ k. word_back (get_or l i 0) (h i) k ∷ words_back l h n (suc i) (omega arith) k)

module _ (m : Machine) (t : Typed m) where
  scs_pairs_back : scs_pairs (scs_cpu m) ≡ m.pairs
  unfolding scs_pairs scs_cpu
  scs_pairs_back = words_back m.pairs t.pairs 12 0 (sym t.count)

  module _ (v : Valid m) where
    scs_switches_back : scs_switches (scs_cpu m) (scs_ports m) ≡ (scs_keeps m).switches
    unfolding scs_switches scs_cpu scs_ports scs_keeps
    scs_switches_back =
        let a = m.switches.iff1 in
        let b = m.switches.iff2 in
        let n = bit_of a % 2 + 2 * (bit_of b % 2) in
        cc (first_bit a b 0 n (omega arith), second_bit a b 0 n (omega arith), mod-eq_of_lt {n = m.switches.im} {m = 4} (omega (arith, v.im)), mod-eq_of_lt v.border)

    blocks_kept : scs_machine m.model (scs_cpu m) (scs_ports m) ≡ scs_keeps m
    unfolding scs_machine scs_cpu scs_ports scs_keeps
    blocks_kept =
        λ k. record {
          pairs = scs_pairs_back k;
          i = m.i;
          r = m.r;
          switches = scs_switches_back k;
          model = m.model;
          out7ffd = carried_back m.model m.out7ffd v.out7ffd k;
          chip = true;
          outfffd = mod-mod m.outfffd 16 k;
          sound = take_all 16 m.sound (omega (arith, t.sound)) k;
          attachment = Nothing;
          byte36 = 0;
          remulation = false;
          ldiremulation = false;
          position = 0;
          side59 = 0;
          side = no_side;
        }

pub machine_kept : (m : Machine) → Typed m → valid_of m ≡ true → scs_machine m.model (scs_cpu m) (scs_ports m) ≡ scs_keeps m
machine_kept m t h = blocks_kept m t (valid_says m t.sound h)

pub keeps_read : (model : Model) (cpu ports : List ℕ) → scs_keeps (scs_machine model cpu ports) ≡ scs_machine model cpu ports
unfolding scs_keeps scs_machine scs_switches
keeps_read model cpu ports = rw (mod-mod (get_or ports 2 0) 16)
