use Rattle.scs_blocks.proofs.ScsParts.{data_some}
use Rattle.scs_blocks.proofs.data_of.Goals as goal

pub returns-in-Stands : goal.returns-in-Stands
returns-in-Stands c = search data_some
