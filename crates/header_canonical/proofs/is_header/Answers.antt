use Rattle.header_canonical.proofs.Canonical.{header_made}
use Rattle.header_canonical.proofs.is_header.Goals as goal

pub returns : goal.returns
returns c = search header_made
