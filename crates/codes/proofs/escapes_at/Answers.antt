use Rattle.codes.proofs.CodesAhead.{flagged_16}
use Rattle.codes.proofs.escapes_at.Goals as goal

pub returns : goal.returns
returns c = search flagged_16
