use Rattle.flags.proofs.Places.{flagged_none, flagged_more, flagged_all}
use Rattle.runs.proofs.others.Goals as goal

pub loop-k-init : goal.loop-k-init
loop-k-init c = search flagged_none

pub loop-k-preserved : goal.loop-k-preserved
loop-k-preserved c = search flagged_more

pub returns : goal.returns
returns c = search flagged_all
