use Rattle.runs.proofs.RunBlocks.{run_blocks_none, run_blocks_more, run_blocks_stop, run_blocks_full}
use Rattle.runs.proofs.run_at.Goals as goal

pub loop-q-init : goal.loop-q-init
loop-q-init c = search run_blocks_none

pub returns-then-other-ne0 : goal.returns-then-other-ne0
returns-then-other-ne0 c = search run_blocks_stop

pub loop-q-preserved : goal.loop-q-preserved
loop-q-preserved c = search run_blocks_more

pub returns : goal.returns
returns c = search run_blocks_full
