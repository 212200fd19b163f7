use Prim.Native.Nat.{◌-◌}
use lib.ListN.{get_or}
use Rattle.flags.specs.Places.{Flagged}
use Rattle.stretches.specs.Inner.{may_code}
use Rattle.stretches.proofs.stops.Given as goal

abbrev pub invariant-loop-k : goal.invariant-loop-k
invariant-loop-k l = Flagged (λ j. may_code (get_or l.block j 0) (get_or l.next j 0) (get_or l.fourth j 0)) l.c l.k

abbrev pub decreases-loop-k : goal.decreases-loop-k
decreases-loop-k l = 16 - l.k
