use Rattle.header.proofs.HeadSteps.{byte12_255, byte12_other}
use Rattle.header.proofs.byte12.Goals as goal

pub returns-then-b : goal.returns-then-b
returns-then-b c = search byte12_255

pub returns : goal.returns
returns c = search byte12_other
