use Rattle.scs_memory.proofs.ScsLoads.{loads_48, loads_128}
use Rattle.scs_memory.proofs.load_memory.Goals as goal

pub returns-in-K48 : goal.returns-in-K48
returns-in-K48 c = search loads_48

pub returns-in-K128 : goal.returns-in-K128
returns-in-K128 c = search loads_128
