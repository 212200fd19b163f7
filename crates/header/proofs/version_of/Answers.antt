use Rattle.header.proofs.HeadSteps.{version_other}
use Rattle.header.proofs.version_of.Goals as goal

pub returns-in-23 : goal.returns-in-23
returns-in-23 c = rw c.in-23.is

pub returns-in-54 : goal.returns-in-54
returns-in-54 c = rw c.in-54.is

pub returns-in_default : goal.returns-in_default
returns-in_default c = search version_other
