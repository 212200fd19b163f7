use Rattle.scs_memory.proofs.ScsLoads.{part_cleared}
use Rattle.scs_memory.proofs.clear_part.Goals as goal

pub returns : goal.returns
returns c = search part_cleared
