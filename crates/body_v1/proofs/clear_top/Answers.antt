use Rattle.body_v1.proofs.BodyMoves.{top_cleared_lem}
use Rattle.body_v1.proofs.clear_top.Goals as goal

pub returns : goal.returns
returns c = top_cleared_lem _ _ c.clear_from.ensures
