use Rattle.scs_bytes.proofs.ScsByteSteps.{scs_write_taken, scs_write_other}
use Rattle.scs_bytes.proofs.write.Goals as goal

pub returns-then-decoded : goal.returns-then-decoded
returns-then-decoded c = search scs_write_taken

pub returns : goal.returns
returns c = search scs_write_other
