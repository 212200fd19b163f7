-- The empty versions that document 01 names against demand 2, as ways to read and to write SCS files.
use Rattle.std.specs.Prelude.{ℕ, List}
use Rattle.spectrum.specs.declared.Machine.{Machine}
use Rattle.z80read.specs.Read.{ReadResult}
use Rattle.z80write.specs.Written.{WriteResult}
use Rattle.scs_read.specs.ScsReads.{scs_read_of}
use Rattle.scs_write.specs.ScsWritten.{scs_written_of}

-- "a reader that .. gives one fixed machine": right in all but the machine
unfoldable pub scs_fixed_machine : Machine → List ℕ → ℕ → ReadResult
scs_fixed_machine fixed s n = record { answer = (scs_read_of s n).answer; place = (scs_read_of s n).place; machine = fixed; memory = (scs_read_of s n).memory }

-- "a writer with an invented length": right in all but the length
unfoldable pub scs_invents_length : Machine → List ℕ → ℕ → WriteResult
scs_invents_length m area n = record { answer = (scs_written_of m area n).answer; size = 15; out = (scs_written_of m area n).out }
