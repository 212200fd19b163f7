-- The one value of the record of theorems.
use Rattle.z80write.specs.Theorems.{Theorems}
use Rattle.z80write.proofs.Longest.{exactly_16384, file_most, longest_file, never_short, exact_fit}

pub theorems : Theorems
theorems =
    record {
      exactly_16384 = exactly_16384;
      file_most = file_most;
      longest_file = longest_file;
      never_short = never_short;
      exact_fit = exact_fit;
    }
