use Rattle.body_v1.proofs.Bodies.{spreads, spreads_none}
use Rattle.body_v1.proofs.spread_out.Goals as goal

pub returns-then-area-eq131072 : goal.returns-then-area-eq131072
returns-then-area-eq131072 c = search spreads

pub returns-else-area-eq131072 : goal.returns-else-area-eq131072
returns-else-area-eq131072 c = search spreads_none
