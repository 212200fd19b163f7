use Rattle.blocks.proofs.BlockSteps.{step_length}
use Rattle.blocks.proofs.failed_length.Goals as goal

pub returns : goal.returns
returns c = search step_length
