use Rattle.pages.proofs.PageSteps.{owned_one, owned_other, owned_below}
use Rattle.pages.proofs.owns.Goals as goal

pub returns-in-2 : goal.returns-in-2
returns-in-2 c = search owned_one

pub returns-in-0 : goal.returns-in-0
returns-in-0 c = search owned_one

pub returns-in-5 : goal.returns-in-5
returns-in-5 c = search owned_one

pub returns-in_default : goal.returns-in_default
returns-in_default c = search owned_other

pub returns-in-K128 : goal.returns-in-K128
returns-in-K128 c = search owned_below
