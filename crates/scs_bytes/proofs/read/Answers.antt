use Rattle.scs_bytes.proofs.ScsByteSteps.{scs_read_other, scs_read_86}
use Rattle.scs_bytes.proofs.read.Goals as goal

pub returns-then-head-ne86 : goal.returns-then-head-ne86
returns-then-head-ne86 c = search scs_read_other

pub returns : goal.returns
returns c = search scs_read_86
