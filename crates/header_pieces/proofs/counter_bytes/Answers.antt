use Rattle.header_pieces.proofs.counter_bytes.Goals as goal

pub returns : goal.returns
returns c = cc
