use Rattle.pack_step.proofs.StepPlaces.{both_plain}
use borrow.Author.Rules.{rules}
use Rattle.pack_step.proofs.two_plain.Goals as goal

pub returns : goal.returns
returns c = search (rules, both_plain)
