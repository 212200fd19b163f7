use Rattle.header_write.proofs.WriteSteps.{registers_put}
use Rattle.header_write.proofs.write_registers.Goals as goal

pub returns : goal.returns
returns c = search registers_put
