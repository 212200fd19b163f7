use Rattle.scs_head.proofs.ScsHeadSteps.{scs_head_short, head_unnamed, head_48, head_128, head_other}
use Rattle.scs_head.proofs.read_scs_head.Goals as goal

pub returns-then-file-lt15 : goal.returns-then-file-lt15
returns-then-file-lt15 c = search scs_head_short

pub returns-then-hardware-eq1 : goal.returns-then-hardware-eq1
returns-then-hardware-eq1 c = search head_48

pub returns-then-hardware-eq2 : goal.returns-then-hardware-eq2
returns-then-hardware-eq2 c = search head_128

pub returns-then-has_name : goal.returns-then-has_name
returns-then-has_name c = search head_other

pub returns : goal.returns
returns c = search head_unnamed
