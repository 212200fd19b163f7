use Rattle.block_read.proofs.BlockHeads.{would_plain, would_other, would_packed}
use Rattle.block_read.proofs.would_fill.Goals as goal

pub returns-then-src-due : goal.returns-then-src-due
returns-then-src-due c = search would_plain

pub returns-then-plain : goal.returns-then-plain
returns-then-plain c = search would_other

pub returns : goal.returns
returns c = search would_packed
