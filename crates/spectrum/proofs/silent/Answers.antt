use Rattle.spectrum.proofs.Zeros.{looked_none, looked_more, looked_all}
use Rattle.spectrum.proofs.silent.Goals as goal

pub loop-i-init : goal.loop-i-init
loop-i-init c = search looked_none

pub loop-i-preserved : goal.loop-i-preserved
loop-i-preserved c = search looked_more

pub returns : goal.returns
returns c = search looked_all
