-- The empty versions that document 01 names against demand 2, as ways to read and ways to write.
use Rattle.std.specs.Prelude.{ℕ, List}
use Rattle.spectrum.specs.declared.Machine.{Machine}
use Rattle.numbers.specs.declared.Refusal.TheVariants.{FileShort}
use Rattle.numbers.specs.Faults.{unplaced}
use Rattle.z80read.specs.Read.{ReadResult, refused_read, read_of}
use Rattle.z80write.specs.Written.{WriteResult, written_of}

-- "a reader that refuses everything"
unfoldable pub refuses_files : List ℕ → ℕ → ReadResult
refuses_files s n = refused_read (unplaced FileShort) n

-- ".. or gives one fixed machine": right in all but the machine
unfoldable pub fixed_machine : Machine → List ℕ → ℕ → ReadResult
fixed_machine fixed s n = record { answer = (read_of s n).answer; place = (read_of s n).place; machine = fixed; memory = (read_of s n).memory }

-- "a writer with an invented length": right in all but the length
unfoldable pub invents_length : Machine → List ℕ → ℕ → WriteResult
invents_length m area n = record { answer = (written_of m area n).answer; size = 86; out = (written_of m area n).out }
