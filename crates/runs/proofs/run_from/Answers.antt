use Rattle.runs.proofs.RunBlocks.{run_seen}
use Rattle.runs.proofs.run_from.Goals as goal

pub returns : goal.returns
returns c = search run_seen
