use mathlib.Core.Path.{refl}
use Rattle.scs_machine.specs.ScsMachine.{scs_switches}
use Rattle.scs_machine.proofs.switches_from.Goals as goal

pub returns : goal.returns
unfolding scs_switches
returns c = refl
