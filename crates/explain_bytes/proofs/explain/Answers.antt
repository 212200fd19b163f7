use Rattle.explain_bytes.proofs.ExplainedBytes.{explained_bytes}
use Rattle.explain_bytes.proofs.explain.Goals as goal

pub returns : goal.returns
returns c = search explained_bytes
