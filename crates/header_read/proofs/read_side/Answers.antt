use Rattle.header_read.proofs.ReadSteps.{inside_side, side_3}
use Rattle.header_read.proofs.read_side.Goals as goal

pub part25-requires : goal.part25-requires
part25-requires c = search inside_side

pub returns-in-V3 : goal.returns-in-V3
returns-in-V3 c = search side_3
