use Rattle.body_v1.proofs.BodyMoves.{settle_is}
use Rattle.body_v1.proofs.settle.Goals as goal

pub returns : goal.returns
returns c = search settle_is
