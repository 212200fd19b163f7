use Prim.Native.Nat.{◌-◌}
use borrow.Author.Rules.{rules}
use Rattle.flags.proofs.Weights.{none_start, none_more, none_all}
use Rattle.flags.proofs.any16.Goals as goal

pub loop-k-init : goal.loop-k-init
loop-k-init c = search none_start

pub loop-k-preserved : goal.loop-k-preserved
loop-k-preserved c = none_more _ _ _ c.loop-k.invariant (search rules)

pub returns : goal.returns
returns c = none_all _ _ _ (search (rules, c.well_formed.0)) c.loop-k.invariant (search rules)
