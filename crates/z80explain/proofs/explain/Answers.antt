use Rattle.z80explain.proofs.ExplainSteps.{head_faulty, head_there, head_good}
use Rattle.z80explain.proofs.explain.Goals as goal

pub explain_body-requires : goal.explain_body-requires
explain_body-requires c = search head_there

pub returns-in-Refused : goal.returns-in-Refused
returns-in-Refused c = search head_faulty

pub returns-in-Header : goal.returns-in-Header
returns-in-Header c = search head_good
