-- What is claimed of writing SCS files beyond the functions' contracts: their lengths.
use Rattle.std.specs.Prelude.{ℕ, ◌+◌, ◌≡◌, true, List, length}
use Rattle.pages.specs.declared.Model.TheVariants.{K48, K128}
use Rattle.spectrum.specs.declared.Machine.{Machine}
use Rattle.spectrum.specs.Valid.{Typed, valid_of}
use Rattle.z80write.specs.Written.{accepted_write}
use Rattle.scs_memory.specs.ScsMemory.{memory_size}
use Rattle.scs_write.specs.ScsWritten.{scs_file_of, scs_written_of}

pub record Theorems : Type 0 where
  -- "88 bytes and the memory"
  pub scs_file_long : (m : Machine) (area : List ℕ) → Typed m → length area ≡ 131072 → length (scs_file_of m area) ≡ 88 + memory_size m.model
  pub scs_file_48k : (m : Machine) (area : List ℕ) → Typed m → length area ≡ 131072 → m.model ≡ K48 → length (scs_file_of m area) ≡ 49240
  pub scs_file_128k : (m : Machine) (area : List ℕ) → Typed m → length area ≡ 131072 → m.model ≡ K128 → length (scs_file_of m area) ≡ 131160
  -- an exact fit is taken
  pub scs_exact_fit : (m : Machine) (area : List ℕ) → valid_of m ≡ true → length area ≡ 131072
      → scs_written_of m area (length (scs_file_of m area)) ≡ accepted_write (scs_file_of m area) (length (scs_file_of m area))
