use Prim.Native.Nat.{◌-◌}
use lib.ListN.{length, drop}
use Rattle.slices.specs.Blank.{blank}
use Rattle.blocks.specs.Blocks.{blocks_into}
use Rattle.blocks.proofs.BlocksSoFar.{BlocksSoFar}
use Rattle.blocks.proofs.read_blocks.Given as goal

abbrev pub invariant-loop-at : goal.invariant-loop-at
invariant-loop-at l = BlocksSoFar l.model l.file (blocks_into l.model (blank 131072) l.from (drop l.from l.file)) (length l.initial.area) l.area l.seen l.at

abbrev pub decreases-loop-at : goal.decreases-loop-at
decreases-loop-at l = length l.file - l.at
