use Rattle.header.proofs.HeadSteps.{first_samrom, first_im, first_good}
use Rattle.header.proofs.first_head.Goals as goal

pub returns-then-b-eq1 : goal.returns-then-b-eq1
returns-then-b-eq1 c = search first_samrom

pub returns-then-file-eq3 : goal.returns-then-file-eq3
returns-then-file-eq3 c = search first_im

pub returns : goal.returns
returns c = search first_good
