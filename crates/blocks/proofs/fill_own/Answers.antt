use Rattle.blocks.proofs.BlockSteps.{fills_own, fills_none}
use Rattle.blocks.proofs.fill_own.Goals as goal

pub returns-then-area-eq131072 : goal.returns-then-area-eq131072
returns-then-area-eq131072 c = search fills_own

pub returns : goal.returns
returns c = search fills_none
