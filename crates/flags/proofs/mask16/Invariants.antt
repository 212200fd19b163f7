use Rattle.flags.proofs.Weights.{Masked}
use Rattle.flags.proofs.mask16.Given as goal

abbrev pub invariant-loop-q : goal.invariant-loop-q
invariant-loop-q l = Masked l.c l.m l.q

abbrev pub decreases-loop-q : goal.decreases-loop-q
decreases-loop-q l = l.q
