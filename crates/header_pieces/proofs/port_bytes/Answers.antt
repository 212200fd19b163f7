use Rattle.header_pieces.proofs.port_bytes.Goals as goal

pub returns : goal.returns
returns c = cc
