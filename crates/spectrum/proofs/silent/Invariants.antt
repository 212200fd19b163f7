use Rattle.spectrum.proofs.Zeros.{ZeroSoFar}
use lib.ListN.{length}
use Prim.Native.Nat.{◌-◌}
use Rattle.spectrum.proofs.silent.Given as goal

abbrev pub invariant-loop-i : goal.invariant-loop-i
invariant-loop-i l = ZeroSoFar l.sound l.i l.all

abbrev pub decreases-loop-i : goal.decreases-loop-i
decreases-loop-i l = length l.sound - l.i
