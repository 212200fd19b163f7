use Rattle.scs_memory.proofs.ScsLoads.{loaded_48k}
use Rattle.scs_memory.proofs.load_48k.Goals as goal

pub returns : goal.returns
returns c = loaded_48k _ _ _ _ _ _ _ _ c.requires c.load_page.ensures c.clear_part.ensures c.load_page-2.ensures c.clear_part-2.ensures
    c.load_page-3.ensures c.clear_part-3.ensures
