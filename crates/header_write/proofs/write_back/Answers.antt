use Rattle.header_write.proofs.write_back.Goals as goal

pub returns : goal.returns
returns c = cc
