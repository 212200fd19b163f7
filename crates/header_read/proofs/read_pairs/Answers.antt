use Rattle.header.proofs.HeadSteps.{long_30}
use Rattle.header_read.proofs.ReadSteps.{pc_inside, pairs_read}
use Rattle.header_read.proofs.read_pairs.Goals as goal

pub word-pc-requires : goal.word-pc-requires
word-pc-requires c = search pc_inside

pub pairs_with-requires : goal.pairs_with-requires
pairs_with-requires c = search long_30

pub returns : goal.returns
returns c = search pairs_read
