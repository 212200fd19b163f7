use Prim.Native.Nat.{◌-◌}
use Rattle.body_v1.proofs.BodyMoves.{Shifted}
use Rattle.body_v1.proofs.move_down.Given as goal

abbrev pub invariant-loop-k : goal.invariant-loop-k
invariant-loop-k l = Shifted l.initial.area l.from l.to l.area l.k

abbrev pub decreases-loop-k : goal.decreases-loop-k
decreases-loop-k l = 16384 - l.k
