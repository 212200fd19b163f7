-- The one value of the record of theorems.
use Prim.Native.Nat.{ℕ}
use mathlib.Core.Path.{refl}
use mathlib.Core.List.{List}
use lib.Dec.{eqb}
use lib.ListN.{length}
use Rattle.slices.proofs.Chosen.{either}
use Rattle.numbers.specs.Faults.{NamedPlace}
use Rattle.numbers.proofs.FaultPlaces.{nowhere}
use Rattle.z80read.specs.Read.{ReadResult, read_of}
use Rattle.z80read.proofs.ReadPlaces.{ResultPlaced, read_place}
use Rattle.file_bytes.specs.Files.{ReadBytes, read_of_bytes}
use Rattle.file_bytes.proofs.FileSteps.{read_through}
use Rattle.scs_read.specs.ScsReads.{scs_read_of}
use Rattle.scs_read.proofs.ScsReadPlaces.{scs_read_place}
use Rattle.scs_bytes.specs.ScsBytes.{scs_read_of_bytes}
use Rattle.scs_bytes.specs.Readers.{ReadFormat, z80, scs, read_as}
use Rattle.scs_bytes.specs.Theorems.{Theorems}

-- of any way to read
through_placed : (o : ReadResult) (file : List ℕ) (n k : ℕ) → ResultPlaced file o → NamedPlace (read_through o n k).answer (read_through o n k).place (length file)
through_placed o file n k p = either (λ (x : ReadBytes). NamedPlace x.answer x.place (length file)) (eqb k 86) _ _ (λ t. p) (λ t. nowhere 20 (length file) refl)

offset_in : (format : ReadFormat) (file : List ℕ) (n k : ℕ) → NamedPlace (read_as format file n k).answer (read_as format file n k).place (length file)
unfolding read_of_bytes scs_read_of_bytes
offset_in z80 file n k = through_placed (read_of file n) file n k (read_place file n)
offset_in scs file n k = through_placed (scs_read_of file n) file n k (scs_read_place file n)

pub theorems : Theorems
theorems = record { offset_in = offset_in }
