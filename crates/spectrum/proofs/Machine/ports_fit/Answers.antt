use Rattle.spectrum.proofs.Validity.{ports_48, ports_128}
use Rattle.spectrum.proofs.Machine.ports_fit.Goals as goal

pub returns-in-K48 : goal.returns-in-K48
returns-in-K48 c = search ports_48

pub returns-in-K128 : goal.returns-in-K128
returns-in-K128 c = search ports_128
