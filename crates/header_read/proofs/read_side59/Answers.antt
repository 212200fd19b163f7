use Rattle.header_read.proofs.ReadSteps.{inside_59, side59_3}
use Rattle.header_read.proofs.read_side59.Goals as goal

pub bounds-s-59 : goal.bounds-s-59
bounds-s-59 c = search inside_59

pub returns-in-V3 : goal.returns-in-V3
returns-in-V3 c = search side59_3
