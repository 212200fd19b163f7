use Rattle.log_steps.specs.Steps.{put_step}
use Rattle.log_steps.proofs.put_step.Goals as goal

pub returns : goal.returns
unfolding put_step
returns c = cc
