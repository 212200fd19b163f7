use Prim.Native.Nat.{◌-◌}
use lib.ListN.{length}
use Rattle.unpack_tail.proofs.UnpackSteps.{Resting}
use Rattle.counting.proofs.count_data.Given as goal

abbrev pub invariant-loop-i : goal.invariant-loop-i
invariant-loop-i l = Resting l.src 0 0 l.i l.n

abbrev pub decreases-loop-i : goal.decreases-loop-i
decreases-loop-i l = length l.src - l.i
