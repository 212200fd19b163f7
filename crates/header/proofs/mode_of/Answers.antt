use Rattle.header.proofs.HeadSteps.{mode_v1, mode_v2, mode_v3}
use Rattle.header.proofs.mode_of.Goals as goal

pub returns-in-V1 : goal.returns-in-V1
returns-in-V1 c = search mode_v1

pub returns-in-V2 : goal.returns-in-V2
returns-in-V2 c = search mode_v2

pub returns-in-V3 : goal.returns-in-V3
returns-in-V3 c = search mode_v3
