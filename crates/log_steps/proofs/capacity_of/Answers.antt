use Rattle.log_steps.proofs.Room.{capacity_small, capacity_most}
use Rattle.log_steps.proofs.capacity_of.Goals as goal

pub returns-then-n-le4096 : goal.returns-then-n-le4096
returns-then-n-le4096 c = search capacity_small

pub returns : goal.returns
returns c = search capacity_most
