use Rattle.scs_write.proofs.ScsLaid.{cpu_put}
use Rattle.scs_write.proofs.put_cpu.Goals as goal

pub returns : goal.returns
returns c = cpu_put _ _ _ _ _ _ _ _ _ _ c.requires c.put_at.ensures c.high_first_pairs.ensures c.put_at-2.ensures
    c.low_first_pairs.ensures c.put_at-3.ensures c.cpu_settings.ensures c.put_at-4.ensures
