-- A machine with its memory, and what a call gives that is refused.
use Prim.Native.Nat.{ℕ}
use mathlib.Core.List.{List}
use Rattle.std.specs.Prelude.{Err}
use Rattle.spectrum.specs.declared.Machine.{Machine}
use Rattle.spectrum.specs.State.{State}
use Rattle.numbers.specs.declared.Refusal.{Refusal}
use Rattle.session.specs.declared.Counts.{Counts}
use Rattle.session.specs.declared.Done.{Done}

abbrev pub on : Machine → List ℕ → State
on m l = record { machine = m; memory = l }

abbrev pub refused_done : Refusal → Machine → Counts → Done
refused_done why m n = record { answer = Err why; machine = m; counts = n }
