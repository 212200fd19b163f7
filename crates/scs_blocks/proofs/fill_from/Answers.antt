use Rattle.scs_blocks.proofs.ScsParts.{filled_is}
use Rattle.scs_blocks.proofs.fill_from.Goals as goal

pub returns : goal.returns
returns c = filled_is _ _ _ c.least-n.ensures _ _ c.copy_from_slice.ensures.after c.clear_from.ensures
