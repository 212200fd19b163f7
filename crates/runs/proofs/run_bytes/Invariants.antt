use Rattle.runs.proofs.RunLength.{Running}
use Prim.Native.Nat.{◌-◌}
use Rattle.runs.proofs.run_bytes.Given as goal

abbrev pub invariant-loop-n : goal.invariant-loop-n
invariant-loop-n l = Running l.src l.i l.v l.n

abbrev pub decreases-loop-n : goal.decreases-loop-n
decreases-loop-n l = 255 - l.n
