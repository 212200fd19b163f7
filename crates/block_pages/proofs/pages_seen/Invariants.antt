use Prim.Native.Nat.{◌-◌}
use Rattle.block_pages.proofs.BlockNumbers.{SeenSoFar}
use Rattle.block_pages.proofs.pages_seen.Given as goal

abbrev pub invariant-loop-k : goal.invariant-loop-k
invariant-loop-k l = SeenSoFar l.seen l.n l.k

abbrev pub decreases-loop-k : goal.decreases-loop-k
decreases-loop-k l = 8 - l.k
