use borrow.Author.Rules.{rules}
use Rattle.flags.proofs.Weights.{masked_none, masked_more, masked_all}
use Rattle.flags.proofs.mask16.Goals as goal

pub loop-q-init : goal.loop-q-init
loop-q-init c = masked_none _ (search (rules, c.well_formed.0))

pub loop-q-preserved : goal.loop-q-preserved
loop-q-preserved c = masked_more _ _ _ _ (search (rules, c.well_formed.0)) c.loop-q.invariant c.loop-q-test.true c.four.ensures

pub returns : goal.returns
returns c = masked_all _ _ _ c.loop-q.invariant (search rules)
