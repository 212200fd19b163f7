use Prim.Native.Nat.{◌-◌}
use lib.ListN.{length}
use Rattle.packed.proofs.Frame.{packed_as, Frame}
use Rattle.pack_by_steps.proofs.pack_by_steps.Given as goal

abbrev pub invariant-loop-i : goal.invariant-loop-i
invariant-loop-i l = Frame packed_as (packed_as l.src) l.src l.initial.dst l.dst l.i l.o

abbrev pub decreases-loop-i : goal.decreases-loop-i
decreases-loop-i l = length l.src - l.i
