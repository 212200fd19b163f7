use Rattle.scs_read.proofs.ports_of.Goals as goal

pub returns : goal.returns
returns c = cc
