use Prim.Native.Nat.{◌-◌}
use lib.ListN.{length, take, drop}
use Rattle.packed.specs.Packed.{before, unpacked}
use Rattle.packed.proofs.Frame.{Frame}
use Rattle.unpack_tail.proofs.unpack_rest.Given as goal

abbrev pub invariant-loop-i : goal.invariant-loop-i
invariant-loop-i l = Frame unpacked (before l.from (take l.at l.initial.dst) (unpacked (drop l.from l.src))) l.src l.initial.dst l.dst l.i l.o

abbrev pub decreases-loop-i : goal.decreases-loop-i
decreases-loop-i l = length l.src - l.i
