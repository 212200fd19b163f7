use Rattle.step_places.specs.Pointed.{intact}
use Rattle.step_places.proofs.is_intact.Goals as goal

pub returns : goal.returns
unfolding intact
returns c = cc
