use Rattle.spectrum.specs.Machine.{blank_machine}
use mathlib.Core.Path.{refl}
use Rattle.spectrum.proofs.Machine.blank.Goals as goal

pub returns : goal.returns
unfolding blank_machine
returns c = refl
