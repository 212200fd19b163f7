use Rattle.scs_head.proofs.ScsHeadSteps.{name_is}
use Rattle.scs_head.proofs.has_name.Goals as goal

pub returns : goal.returns
returns c = search name_is
