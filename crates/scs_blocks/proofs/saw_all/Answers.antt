use Rattle.scs_blocks.proofs.ScsParts.{seen_all}
use Rattle.scs_blocks.proofs.saw_all.Goals as goal

pub returns : goal.returns
returns c = search seen_all
