use Rattle.scs_pieces.proofs.cpu_settings.Goals as goal

pub returns : goal.returns
returns c = cc
