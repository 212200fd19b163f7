use Rattle.file_bytes.proofs.FileSteps.{write_taken, write_other}
use Rattle.file_bytes.proofs.write.Goals as goal

pub returns-then-decoded : goal.returns-then-decoded
returns-then-decoded c = search write_taken

pub returns : goal.returns
returns c = search write_other
