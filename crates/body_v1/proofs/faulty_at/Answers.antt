use Rattle.body_v1.proofs.Bodies.{fault_of_body}
use Rattle.body_v1.proofs.faulty_at.Goals as goal

pub returns : goal.returns
returns c = search fault_of_body
