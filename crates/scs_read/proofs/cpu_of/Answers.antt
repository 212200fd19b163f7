use Rattle.scs_read.proofs.cpu_of.Goals as goal

pub returns : goal.returns
returns c = cc
