use Rattle.scs_read.proofs.ScsReadSteps.{scs_length, scs_head_refused, scs_blocks_refused, scs_read}
use Rattle.scs_read.proofs.read.Goals as goal

pub returns-then-area-ne131072 : goal.returns-then-area-ne131072
returns-then-area-ne131072 c = search scs_length

pub returns-in-Bad : goal.returns-in-Bad
returns-in-Bad c = search scs_head_refused

pub returns-in-Bad-found : goal.returns-in-Bad-found
returns-in-Bad-found c = search scs_blocks_refused

pub returns-in-Blocks : goal.returns-in-Blocks
returns-in-Blocks c = search scs_read
