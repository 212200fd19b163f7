use Rattle.slices.proofs.Fills.{cleared, cleared_none}
use Rattle.slices.proofs.clear_from.Goals as goal

pub returns-then-dst-n : goal.returns-then-dst-n
returns-then-dst-n c = search cleared_none

pub returns : goal.returns
returns c = search cleared
