use Prim.Native.Nat.{◌-◌}
use lib.ListN.{length}
use Rattle.unpacking.proofs.UnpackLoop.{Unpacking}
use Rattle.unpacking.proofs.unpack.Given as goal

abbrev pub invariant-loop-i : goal.invariant-loop-i
invariant-loop-i l = Unpacking l.src l.initial.dst l.dst l.i l.o l.codes

abbrev pub decreases-loop-i : goal.decreases-loop-i
decreases-loop-i l = length l.src - l.i
