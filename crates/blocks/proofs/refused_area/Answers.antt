use mathlib.Core.Path.{refl}
use Rattle.blocks.proofs.BlocksSoFar.{area_cleared}
use Rattle.blocks.proofs.refused_area.Goals as goal

pub returns : goal.returns
returns c = (refl, λ l. search area_cleared)
