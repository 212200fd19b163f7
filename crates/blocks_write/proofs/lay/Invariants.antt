use Prim.Native.Nat.{◌-◌}
use Rattle.blocks_write.proofs.LaidSoFar.{LaidSoFar}
use Rattle.blocks_write.proofs.lay.Given as goal

abbrev pub invariant-loop-i : goal.invariant-loop-i
invariant-loop-i l = LaidSoFar l.model l.area l.initial.out l.out l.i l.at

abbrev pub decreases-loop-i : goal.decreases-loop-i
decreases-loop-i l = l.n - l.i
