use Rattle.header_canonical.proofs.not_canonical.Goals as goal

pub returns : goal.returns
returns c = cc
