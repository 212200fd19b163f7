use Rattle.block_write.proofs.BlockWritten.{head_put}
use native.Mathlib.Omega.{arith}
use lib.ListN.{length-set}
use Rattle.block_write.proofs.put_head.Goals as goal

pub bounds-out-1 : goal.bounds-out-1
bounds-out-1 c = simp length-set (omega arith)

pub returns : goal.returns
returns c = search head_put
