use Rattle.scs_write.proofs.ScsLaid.{ports_put}
use Rattle.scs_write.proofs.put_ports.Goals as goal

pub returns : goal.returns
returns c = ports_put _ _ _ _ _ _ _ c.typed.ensures c.requires c.put_at.ensures c.ports_front.ensures c.put_at-2.ensures
    c.put16.ensures
