use Prim.Native.Nat.{◌-◌}
use lib.ListN.{get_or}
use Rattle.packed.specs.Packed.{escape}
use Rattle.flags.specs.Places.{Flagged}
use Rattle.codes.proofs.escapes.Given as goal

abbrev pub invariant-loop-k : goal.invariant-loop-k
invariant-loop-k l = Flagged (λ j. escape (get_or l.block j 0) (get_or l.next j 0)) l.c l.k

abbrev pub decreases-loop-k : goal.decreases-loop-k
decreases-loop-k l = 16 - l.k
