-- The one value of the record of theorems.
use Rattle.scs_file.specs.Theorems.{Theorems}
use Rattle.scs_file.proofs.ScsKept.{machine_kept, keeps_read}
use Rattle.scs_file.proofs.ScsFileBack.{scs_back, scs_file_back}
use Rattle.scs_file.proofs.RefutedScs.{refuted_scs_refuses, refuted_scs_fixed, refuted_scs_length}
use Rattle.scs_file.proofs.ScsStarts.{scs_start, scs_read_typed, scs_again}

pub theorems : Theorems
theorems =
    record {
      scs_back = scs_back;
      scs_file_back = scs_file_back;
      scs_start = scs_start;
      scs_read_typed = scs_read_typed;
      scs_again = scs_again;
      machine_kept = machine_kept;
      keeps_read = keeps_read;
      refuted_scs_refuses = refuted_scs_refuses;
      refuted_scs_fixed = refuted_scs_fixed;
      refuted_scs_length = refuted_scs_length;
    }
