use Rattle.journal.proofs.SoundCalls.{scs_opened_is}
use Rattle.journal.proofs.open_scs.Goals as goal

pub returns : goal.returns
returns c = search scs_opened_is
