use Rattle.header_write.proofs.write_switches.Goals as goal

pub returns : goal.returns
returns c = cc
