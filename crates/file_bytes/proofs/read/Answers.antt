use Rattle.file_bytes.proofs.FileSteps.{read_other, read_86}
use Rattle.file_bytes.proofs.read.Goals as goal

pub returns-then-head-ne86 : goal.returns-then-head-ne86
returns-then-head-ne86 c = search read_other

pub returns : goal.returns
returns c = search read_86
