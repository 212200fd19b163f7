-- What is claimed of SCS files beyond the contracts of `read` and `write`.
use Rattle.std.specs.Prelude.{ℕ, ◌<◌, ◌≡◌, true, List, get_or}
use Rattle.spectrum.specs.declared.Machine.{Machine}
use Rattle.numbers.specs.Numbers.{accepted}
use Rattle.spectrum.specs.Valid.{Typed, valid_of}
use Rattle.z80file.specs.Clean.{Clean, ReadGives}
use Rattle.z80file.specs.WrongFiles.{refuses_files}
use Rattle.pages.specs.declared.Model.{Model}
use Rattle.scs_pieces.specs.ScsPieces.{scs_cpu, scs_ports}
use Rattle.scs_machine.specs.ScsMachine.{scs_machine}
use Rattle.z80read.specs.Read.{accepted_read}
use Rattle.scs_read.specs.ScsReads.{scs_read_of}
use Rattle.scs_write.specs.ScsWritten.{scs_file_of, scs_written_of}
use Rattle.scs_file.specs.ScsKeeps.{scs_keeps}
use Rattle.scs_file.specs.ScsRoundTrip.{ScsBackOf}
use Rattle.scs_file.specs.WrongScs.{scs_fixed_machine, scs_invents_length}

pub record Theorems : Type 0 where
  -- demand 2 for SCS: reading and writing as they are defined, which `read` and `write` equal
  pub scs_back : ScsBackOf scs_read_of scs_written_of
  -- the same of the file by itself, whatever output it stands in
  pub scs_file_back : (m : Machine) (area : List ℕ) → Typed m → valid_of m ≡ true → Clean m.model area
      → scs_read_of (scs_file_of m area) 131072 ≡ accepted_read (scs_keeps m) area
  -- what reading accepts is valid, and its unused pages are zero; it is as the types of the code say: a start
  pub scs_start : (s : List ℕ) (n : ℕ) → (scs_read_of s n).answer ≡ accepted → ReadGives (scs_read_of s n).machine (scs_read_of s n).memory n
  pub scs_read_typed : (s : List ℕ) (n : ℕ) → ((i : ℕ) → get_or s i 0 < 256) → (scs_read_of s n).answer ≡ accepted → Typed (scs_read_of s n).machine
  -- SCS keeps all that SCS reads: written again as SCS and read again, it is the same
  pub scs_again : (s : List ℕ) (n : ℕ) → ((i : ℕ) → get_or s i 0 < 256) → (scs_read_of s n).answer ≡ accepted
      → scs_read_of (scs_file_of (scs_read_of s n).machine (scs_read_of s n).memory) 131072 ≡ scs_read_of s n
  -- the blocks of a valid machine give back what SCS keeps of it
  pub machine_kept : (m : Machine) → Typed m → valid_of m ≡ true → scs_machine m.model (scs_cpu m) (scs_ports m) ≡ scs_keeps m
  -- of a machine that two blocks give, SCS keeps all
  pub keeps_read : (model : Model) (cpu ports : List ℕ) → scs_keeps (scs_machine model cpu ports) ≡ scs_machine model cpu ports
  -- the empty versions of demand 2 do not meet it for SCS either: a reader that refuses everything, one that gives a fixed machine, whichever
  -- it is, and a writer with an invented length
  pub refuted_scs_refuses : ScsBackOf refuses_files scs_written_of → ⊥
  pub refuted_scs_fixed : (fixed : Machine) → ScsBackOf (scs_fixed_machine fixed) scs_written_of → ⊥
  pub refuted_scs_length : ScsBackOf scs_read_of scs_invents_length → ⊥
