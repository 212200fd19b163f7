use Prim.Native.Nat.{◌-◌}
use lib.ListN.{length}
use Rattle.scs_blocks.specs.ScsBlocks.{scs_blocks}
use Rattle.scs_blocks.proofs.ScsSoFar.{ScsSoFar}
use Rattle.scs_blocks.proofs.find_blocks.Given as goal

abbrev pub invariant-loop-place : goal.invariant-loop-place
invariant-loop-place l = ScsSoFar l.file (scs_blocks l.file l.from) l.seen l.place

abbrev pub decreases-loop-place : goal.decreases-loop-place
decreases-loop-place l = length l.file - l.place
