use Rattle.z80explain.proofs.ExplainSteps.{nothing_lent, body_good, body_faulty}
use borrow.Author.Rules.{rules}
use Rattle.z80explain.proofs.explain_body.Goals as goal

pub read_memory-requires : goal.read_memory-requires
read_memory-requires c = (search rules, search nothing_lent)

pub returns-in-Whole : goal.returns-in-Whole
returns-in-Whole c = search body_good

pub returns-in-Faulty : goal.returns-in-Faulty
returns-in-Faulty c = search body_faulty
