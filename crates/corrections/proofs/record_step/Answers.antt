use Rattle.corrections.proofs.CorrectionSteps.{added_is}
use borrow.Author.Rules.{rules}
use Rattle.corrections.proofs.record_step.Goals as goal

pub returns : goal.returns
returns c = (search added_is, search rules)
