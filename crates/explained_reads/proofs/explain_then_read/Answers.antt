use Rattle.explained_reads.proofs.ExplainedReads.{explains_reading}
use Rattle.explained_reads.proofs.explain_then_read.Goals as goal

pub returns : goal.returns
returns c = search explains_reading
