use Prim.Native.Nat.{◌-◌}
use Rattle.codes.proofs.CodesAhead.{Looking}
use Rattle.codes.proofs.look.Given as goal

abbrev pub invariant-loop-q : goal.invariant-loop-q
invariant-loop-q l = Looking l.src l.i l.initial.dst l.o l.dst l.m l.q

abbrev pub decreases-loop-q : goal.decreases-loop-q
decreases-loop-q l = 4 - l.q
