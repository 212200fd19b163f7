use Rattle.scs_write.proofs.ScsLaid.{front_put}
use Rattle.scs_write.proofs.lay_front.Goals as goal

pub returns : goal.returns
returns c = front_put c.args.model _ _ _ _ c.requires c.put_at.ensures c.hardware_and_size.ensures c.put_at-2.ensures
