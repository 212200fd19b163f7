-- What is claimed of .Z80 files beyond the contracts of `read` and `write`.
use Rattle.std.specs.Prelude.{ℕ, ◌<◌, ◌≡◌, true, List, map}
use Rattle.spectrum.specs.declared.Machine.{Machine}
use Rattle.pages.specs.declared.Model.{Model}
use Rattle.numbers.specs.Numbers.{accepted}
use Rattle.pages.specs.Pages.{owned}
use Rattle.spectrum.specs.Valid.{Typed, valid_of}
use Rattle.block_pages.specs.declared.Page.TheVariants.{At}
use Rattle.block_pages.specs.Numbered.{page_of}
use Rattle.z80read.specs.Read.{accepted_read, read_of}
use Rattle.z80write.specs.Written.{file_of, written_of}
use Rattle.z80file.specs.Clean.{Clean, ReadGives}
use Rattle.z80file.specs.RoundTrip.{BackOf, FilesOf}
use Rattle.z80file.specs.WrongFiles.{refuses_files, fixed_machine, invents_length}
use Rattle.z80file.specs.Cases.{case_table, case_computed, case_expected}

pub record Theorems : Type 0 where
  -- demand 2: reading and writing as they are defined, which `read` and `write` equal
  pub files : FilesOf read_of written_of
  -- its last sentence of the file by itself, whatever output it stands in
  pub file_back : (m : Machine) (area : List ℕ) → Typed m → valid_of m ≡ true → Clean m.model area
      → read_of (file_of m area) 131072 ≡ accepted_read m area
  -- "An accepted read gives a valid machine", and "sets pages that the machine does not own to zero": with `read_typed`, a start
  pub read_start : (s : List ℕ) (n : ℕ) → (read_of s n).answer ≡ accepted → ReadGives (read_of s n).machine (read_of s n).memory n
  -- the page of a block number is one that the machine owns
  pub owned_page : (model : Model) (n p : ℕ) → page_of model n ≡ At p → (owned model p ≡ true) × (p < 8)
  -- P1 to P12, "proved together as a single table under a single statement"
  pub cases : map case_computed case_table ≡ map case_expected case_table
  -- the empty versions of demand 2 do not meet its last sentence: a reader that refuses everything, one that gives a fixed machine, whichever
  -- it is, and a writer with an invented length
  pub refuted_refuses_files : BackOf refuses_files written_of → ⊥
  pub refuted_fixed_machine : (fixed : Machine) → BackOf (fixed_machine fixed) written_of → ⊥
  pub refuted_invented_length : BackOf read_of invents_length → ⊥
