use Rattle.pack_by_steps.proofs.StepLoop.{stretch_made}
use Rattle.pack_by_steps.proofs.plain_stretch.Goals as goal

pub returns-then-o-dst : goal.returns-then-o-dst
returns-then-o-dst c = search stretch_made
