use Rattle.scs_head.proofs.ScsHeadSteps.{no_first, first_memory, first_other}
use Rattle.scs_head.proofs.memory_first.Goals as goal

pub returns-then-file-lt16 : goal.returns-then-file-lt16
returns-then-file-lt16 c = search no_first

pub returns-then-file-eq3 : goal.returns-then-file-eq3
returns-then-file-eq3 c = search first_memory

pub returns : goal.returns
returns c = search first_other
