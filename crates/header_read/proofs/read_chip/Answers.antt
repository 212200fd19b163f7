use Rattle.header_read.proofs.ReadSteps.{chip_48}
use Rattle.header_read.proofs.read_chip.Goals as goal

pub returns-in-K48 : goal.returns-in-K48
returns-in-K48 c = search chip_48
