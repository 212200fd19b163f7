use Rattle.log_steps.specs.Steps.{step_at}
use Rattle.log_steps.proofs.step_at.Goals as goal

pub returns : goal.returns
unfolding step_at
returns c = cc
