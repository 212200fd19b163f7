use lib.ListN.{length, take, drop}
use mathlib.Core.List.{◌++◌}
use Prim.Native.Nat.{◌-◌}
use Rattle.packed.specs.Packed.{bytes, packed}
use Rattle.packed.proofs.Frame.{packed_as, Frame}
use Rattle.pack_tail.proofs.pack_rest.Given as goal

abbrev pub invariant-loop-i : goal.invariant-loop-i
invariant-loop-i l = Frame packed_as (bytes (take l.at l.initial.dst ++ packed (drop l.from l.src))) l.src l.initial.dst l.dst l.i l.o

abbrev pub decreases-loop-i : goal.decreases-loop-i
decreases-loop-i l = length l.src - l.i
