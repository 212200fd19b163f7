-- What each call does to the machine, the memory, the log and its two numbers, on every input.
use Rattle.std.specs.Prelude.{ℕ, List, not, length, replicate, leb, eqb}
use Rattle.slices.specs.Choose.{both}
use Rattle.spectrum.specs.declared.Machine.{Machine}
use Rattle.numbers.specs.declared.Refusal.TheVariants.{InvalidMachine, MemoryLength, CountsDisagree}
use Rattle.numbers.specs.Numbers.{Answer, accepted, refuse}
use Rattle.spectrum.specs.State.{State}
use Rattle.spectrum.specs.Valid.{valid_of}
use Rattle.z80read.specs.Read.{ReadResult, read_of}
use Rattle.scs_read.specs.ScsReads.{scs_read_of}
use Rattle.session.specs.declared.Counts.{Counts}
use Rattle.log_steps.specs.Steps.{capacity}
use Rattle.session.specs.Session.{Session, CallResult, started, if_accepted}
use Rattle.five_calls.specs.declared.Call.{Call}
use Rattle.five_calls.specs.FiveCalls.{called}

-- "20, 21, 29": what every call looks at first
unfoldable pub soundness : Machine → ℕ → ℕ → ℕ → ℕ → Answer
soundness m area cap standing total =
    refuse (not (valid_of m)) InvalidMachine
    (refuse (not (eqb area 131072)) MemoryLength
    (refuse (not (both (leb standing total) (leb total cap))) CountsDisagree accepted))

abbrev pub if_sound : Session → CallResult → CallResult
if_sound d x = if_accepted (soundness d.state.machine (length d.state.memory) (capacity (length d.log)) d.standing d.total) d x

-- a call: 20, 21, 29, then its own numbers
unfoldable pub journal_call : Call → Session → CallResult
journal_call c d = if_sound d (called c d)

-- "Starting is never refused; it sets the whole log to zero, standing and total to 0."
abbrev pub start_counts : Counts
start_counts = record { standing = 0; total = 0 }

abbrev pub start_of : ReadResult → State
start_of o = record { machine = o.machine; memory = o.memory }

-- a file opened for correction: what its reading came to, and a log of so many bytes, started whether or not it is accepted
abbrev pub opened_as : ReadResult → ℕ → CallResult
opened_as o size = record { answer = o.answer; session = started (start_of o) (replicate size 0) }

-- a.Z80 file, and an SCS file, opened into an area of n bytes and a log of so many
unfoldable pub open_of : List ℕ → ℕ → ℕ → CallResult
open_of file n size = opened_as (read_of file n) size

unfoldable pub scs_open_of : List ℕ → ℕ → ℕ → CallResult
scs_open_of file n size = opened_as (scs_read_of file n) size
