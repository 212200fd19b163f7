-- An opened file is a start: what reading gives is what the session begins with.
use Prim.Native.Nat.{ℕ}
use mathlib.Core.Path.{◌≡◌}
use mathlib.Core.List.{List}
use Rattle.numbers.specs.Numbers.{accepted}
use Rattle.z80file.specs.Clean.{ReadGives}
use Rattle.z80file.proofs.File.{read_start}
use Rattle.scs_file.proofs.ScsStarts.{scs_start}
use Rattle.journal.specs.Journal.{open_of, scs_open_of}

pub open_start : (file : List ℕ) (n size : ℕ) → (open_of file n size).answer ≡ accepted
    → ReadGives (open_of file n size).session.state.machine (open_of file n size).session.state.memory n
unfolding open_of
open_start file n size e = read_start file n e

pub scs_open_start : (file : List ℕ) (n size : ℕ) → (scs_open_of file n size).answer ≡ accepted
    → ReadGives (scs_open_of file n size).session.state.machine (scs_open_of file n size).session.state.memory n
unfolding scs_open_of
scs_open_start file n size e = scs_start file n e
