use Rattle.blocks.proofs.BlockSteps.{fault_missing}
use Rattle.blocks.proofs.missing_blocks.Goals as goal

pub returns : goal.returns
returns c = search fault_missing
