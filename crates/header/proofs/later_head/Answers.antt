use Rattle.header.proofs.HeadSteps.{later_short, later_mode, later_good}
use Rattle.header.proofs.later_head.Goals as goal

pub returns-then-file-least : goal.returns-then-file-least
returns-then-file-least c = search later_short

pub returns-in-NotCarried : goal.returns-in-NotCarried
returns-in-NotCarried c = search later_mode

pub returns-in-Carried : goal.returns-in-Carried
returns-in-Carried c = search later_good
