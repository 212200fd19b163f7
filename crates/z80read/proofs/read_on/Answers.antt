use Rattle.z80read.proofs.FileRead.{on_refused, on_accepted}
use Rattle.z80read.proofs.read_on.Goals as goal

pub returns-in-Faulty : goal.returns-in-Faulty
returns-in-Faulty c = search on_refused

pub returns-in-Whole : goal.returns-in-Whole
returns-in-Whole c = search on_accepted
