use Prim.Native.Nat.{◌-◌}
use lib.ListN.{length}
use Rattle.measuring.proofs.Measured.{Measured}
use Rattle.measuring.proofs.packed_len.Given as goal

abbrev pub invariant-loop-i : goal.invariant-loop-i
invariant-loop-i l = Measured l.src l.i l.len

abbrev pub decreases-loop-i : goal.decreases-loop-i
decreases-loop-i l = length l.src - l.i
