use Rattle.blocks.proofs.BlockSteps.{step_failed}
use Rattle.blocks.proofs.failed.Goals as goal

pub returns : goal.returns
returns c = search step_failed
