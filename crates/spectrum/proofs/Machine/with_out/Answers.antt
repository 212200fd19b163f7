use Rattle.spectrum.specs.Machine.{with_out}
use mathlib.Core.Path.{refl}
use Rattle.spectrum.proofs.Machine.with_out.Goals as goal

pub returns : goal.returns
unfolding with_out
returns c = refl
