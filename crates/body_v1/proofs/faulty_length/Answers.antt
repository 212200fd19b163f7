use Rattle.body_v1.proofs.Bodies.{length_of_body}
use Rattle.body_v1.proofs.faulty_length.Goals as goal

pub returns : goal.returns
returns c = search length_of_body
