use Rattle.body_v1.proofs.BodyMoves.{shifted_none, shifted_more, shifted_all}
use Rattle.body_v1.proofs.move_down.Goals as goal

pub loop-k-init : goal.loop-k-init
loop-k-init c = search shifted_none

pub loop-k-preserved : goal.loop-k-preserved
loop-k-preserved c = search shifted_more

pub returns : goal.returns
returns c = search shifted_all
