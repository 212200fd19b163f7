-- What is claimed of .Z80 files, proved.
use Rattle.z80file.specs.Theorems.{Theorems}
use Rattle.z80file.proofs.CleanAreas.{owned_page}
use Rattle.z80file.proofs.File.{file_back, read_start}
use Rattle.z80file.proofs.FilesHold.{files}
use Rattle.z80file.proofs.Cases.{cases}
use Rattle.z80file.proofs.RefutedFiles.{refuted_refuses_files, refuted_fixed_machine, refuted_invented_length}

pub theorems : Theorems
theorems =
    record {
      files = files;
      file_back = file_back;
      read_start = read_start;
      owned_page = owned_page;
      cases = cases;
      refuted_refuses_files = refuted_refuses_files;
      refuted_fixed_machine = refuted_fixed_machine;
      refuted_invented_length = refuted_invented_length;
    }
