use Rattle.body_v1.proofs.Bodies.{moved_page}
use Rattle.body_v1.proofs.move_page.Goals as goal

pub returns : goal.returns
returns c = search moved_page
