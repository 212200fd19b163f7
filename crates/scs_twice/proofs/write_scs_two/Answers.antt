use Rattle.files_twice.proofs.FilesTwice.{writes_two}
use Rattle.scs_twice.proofs.write_scs_two.Goals as goal

pub returns : goal.returns
returns c = search writes_two
