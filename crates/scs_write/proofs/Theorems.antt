-- The one value of the record of theorems.
use Rattle.scs_write.specs.Theorems.{Theorems}
use Rattle.scs_write.proofs.ScsFiles.{scs_file_long, scs_file_48k, scs_file_128k}
use Rattle.scs_write.proofs.ScsFits.{scs_exact_fit}

pub theorems : Theorems
theorems = record { scs_file_long = scs_file_long; scs_file_48k = scs_file_48k; scs_file_128k = scs_file_128k; scs_exact_fit = scs_exact_fit }
