use Rattle.byte_correction.proofs.ByteMade.{byte_done}
use Rattle.byte_correction.proofs.byte_in.Goals as goal

pub returns : goal.returns
returns c = let a = c.args in
    byte_done a.m a.memory.now a.log.now a.n a.page a.offset a.value _ _ _ _ c.byte_word.ensures c.byte_word-2.ensures c.record_step.ensures
