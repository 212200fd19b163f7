use Rattle.header_read.proofs.ReadSteps.{inside_56, inside_57, position_3}
use Rattle.header_read.proofs.read_position.Goals as goal

pub word-requires : goal.word-requires
word-requires c = search inside_56

pub bounds-s-57 : goal.bounds-s-57
bounds-s-57 c = search inside_57

pub returns-in-V3 : goal.returns-in-V3
returns-in-V3 c = search position_3
