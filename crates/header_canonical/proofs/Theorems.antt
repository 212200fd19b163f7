-- The one value of the record of theorems.
use Prim.Native.Nat.{ℕ}
use mathlib.Core.Path.{ap, ◌∙◌}
use mathlib.Core.List.{List, ◌++◌}
use lib.ListN.{length}
use Rattle.slices.specs.Bytes.{at, bit_at, bit_of}
use Rattle.spectrum.proofs.Validity.{valid_says}
use Rattle.header.specs.declared.Version.TheVariants.{V3}
use Rattle.header.specs.Heads.{head_of}
use Rattle.header_read.specs.Reading.{machine_of}
use Rattle.header_write.proofs.WriteSteps.{header_86}
use Rattle.header_canonical.specs.Theorems.{Theorems}
use Rattle.header_canonical.specs.Canonical.{decoded_of}
use Rattle.header_canonical.proofs.MachineBack.{machine_back, header_mark}
use Rattle.header_canonical.proofs.HeadBack.{head_back}
use Rattle.header_canonical.proofs.Canonical.{decoded_back, decoded_same, decoded_is, one_machine}

pub theorems : Theorems
theorems =
    record {
      head_back = λ m head rest f. ap (λ (h : List ℕ). head_of (h ++ rest)) f.is ∙ head_back m rest f.typed (valid_says m f.typed.sound f.valid);
      machine_back = λ m head rest f. ap (λ (h : List ℕ). machine_of V3 m.model m.attachment (h ++ rest)) f.is
          ∙ machine_back m rest f.typed (valid_says m f.typed.sound f.valid);
      header_86 = λ m head f. ap length f.is ∙ header_86 m f.typed;
      decoded_back = decoded_back;
      decoded_same = decoded_same;
      decoded_is = decoded_is;
      chip_mark = λ s c. ap (λ (h : List ℕ). bit_of (bit_at (at h 37) 4)) (decoded_same s c) ∙ header_mark (decoded_of s).machine;
      one_machine = one_machine;
    }
