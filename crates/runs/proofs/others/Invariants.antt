use Prim.Native.Nat.{◌-◌}
use lib.ListN.{get_or}
use mathlib.Core.Bool.{not}
use lib.Dec.{eqb}
use Rattle.flags.specs.Places.{Flagged}
use Rattle.runs.proofs.others.Given as goal

abbrev pub invariant-loop-k : goal.invariant-loop-k
invariant-loop-k l = Flagged (λ j. not (eqb (get_or l.block j 0) l.v)) l.c l.k

abbrev pub decreases-loop-k : goal.decreases-loop-k
decreases-loop-k l = 16 - l.k
