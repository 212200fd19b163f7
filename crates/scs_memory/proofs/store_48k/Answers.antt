use Rattle.scs_memory.proofs.ScsStores.{stored_48k}
use Rattle.scs_memory.proofs.store_48k.Goals as goal

pub returns : goal.returns
returns c = stored_48k _ _ _ _ _ _ c.requires.0 c.requires.1 c.move_page.ensures c.move_page-2.ensures c.move_page-3.ensures
