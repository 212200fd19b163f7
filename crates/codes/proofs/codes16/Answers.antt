use Rattle.codes.proofs.CodesAhead.{copied_16}
use Rattle.codes.proofs.codes16.Goals as goal

pub returns : goal.returns
returns c = search copied_16
