use Prim.Native.Nat.{◌-◌}
use Rattle.flags.proofs.Weights.{NoneUpTo}
use Rattle.flags.proofs.any16.Given as goal

abbrev pub invariant-loop-k : goal.invariant-loop-k
invariant-loop-k l = NoneUpTo l.c l.any l.k

abbrev pub decreases-loop-k : goal.decreases-loop-k
decreases-loop-k l = 16 - l.k
