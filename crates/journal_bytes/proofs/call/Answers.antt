use Rattle.header_canonical.proofs.Canonical.{decoded_86}
use Rattle.journal_bytes.proofs.CallSteps.{call_leaves, call_refused}
use Rattle.journal_bytes.proofs.call.Goals as goal

pub put_back-requires : goal.put_back-requires
put_back-requires c = search decoded_86

pub returns-then-decoded : goal.returns-then-decoded
returns-then-decoded c = search call_leaves

pub returns : goal.returns
returns c = search call_refused
