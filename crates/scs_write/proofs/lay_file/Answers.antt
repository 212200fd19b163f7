use Rattle.scs_write.proofs.ScsFiles.{file_laid}
use Rattle.scs_write.proofs.lay_file.Goals as goal

pub returns : goal.returns
returns c = file_laid _ _ c.typed.ensures c.requires.0 _ _ _ _ _ _ _ c.requires.1 c.size_of_memory-end.ensures c.lay_front.ensures
    c.store_memory.ensures c.put_cpu.ensures c.put_ports.ensures c.clear_from.ensures
