use Rattle.scs_memory.proofs.ScsLoads.{page_loaded}
use Rattle.scs_memory.proofs.load_page.Goals as goal

pub returns : goal.returns
returns c = search page_loaded
