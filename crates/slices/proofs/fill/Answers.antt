use lib.ListN.{length-set}
use native.Mathlib.Omega.{arith}
use Rattle.slices.proofs.Fills.{filled_none, filled_more, filled_all}
use Rattle.slices.proofs.fill.Goals as goal

pub loop-i-init : goal.loop-i-init
loop-i-init c = search filled_none

pub loop-i-smaller : goal.loop-i-smaller
loop-i-smaller c = simp length-set (omega arith)

pub loop-i-preserved : goal.loop-i-preserved
loop-i-preserved c = search filled_more

pub returns : goal.returns
returns c = search filled_all
