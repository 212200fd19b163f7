use Rattle.journal.proofs.SoundCalls.{opened_is}
use Rattle.journal.proofs.open.Goals as goal

pub returns : goal.returns
returns c = search opened_is
