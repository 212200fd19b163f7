use Rattle.spectrum.specs.Valid.{valid_of}
use Rattle.spectrum.proofs.Machine.valid.Goals as goal

pub returns : goal.returns
unfolding valid_of
returns c = cc
