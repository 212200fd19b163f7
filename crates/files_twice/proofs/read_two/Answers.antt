use Rattle.files_twice.proofs.FilesTwice.{reads_two}
use Rattle.files_twice.proofs.read_two.Goals as goal

pub returns : goal.returns
returns c = search reads_two
