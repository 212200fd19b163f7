use Rattle.z80read.proofs.refused_file.Goals as goal

pub returns : goal.returns
returns c = cc
