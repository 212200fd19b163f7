use Prim.Native.Nat.{◌-◌}
use lib.ListN.{length}
use Rattle.slices.proofs.Fills.{Filled}
use Rattle.slices.proofs.fill.Given as goal

abbrev pub invariant-loop-i : goal.invariant-loop-i
invariant-loop-i l = Filled l.initial.dst l.v l.dst l.i

abbrev pub decreases-loop-i : goal.decreases-loop-i
decreases-loop-i l = length l.dst - l.i
