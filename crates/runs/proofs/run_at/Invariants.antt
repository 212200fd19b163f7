use Prim.Native.Nat.{◌-◌}
use Rattle.runs.proofs.RunBlocks.{RunBlocks}
use Rattle.runs.proofs.run_at.Given as goal

abbrev pub invariant-loop-q : goal.invariant-loop-q
invariant-loop-q l = RunBlocks l.src l.i l.v l.q

abbrev pub decreases-loop-q : goal.decreases-loop-q
decreases-loop-q l = 16 - l.q
