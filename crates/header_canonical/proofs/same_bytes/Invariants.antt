use Rattle.header_canonical.proofs.Compared.{Compared}
use lib.ListN.{length}
use Prim.Native.Nat.{◌-◌}
use Rattle.header_canonical.proofs.same_bytes.Given as goal

abbrev pub invariant-loop-i : goal.invariant-loop-i
invariant-loop-i l = Compared l.s l.h l.i l.all

abbrev pub decreases-loop-i : goal.decreases-loop-i
decreases-loop-i l = length l.s - l.i
