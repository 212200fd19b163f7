use Rattle.scs_machine.specs.ScsMachine.{scs_machine}
use Rattle.scs_machine.proofs.machine_from.Goals as goal

pub returns : goal.returns
unfolding scs_machine
returns c = cc
