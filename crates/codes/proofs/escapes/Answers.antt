use Prim.Native.Nat.{◌-◌}
use borrow.Author.Rules.{rules}
use Rattle.flags.proofs.Places.{flagged_none, flagged_more, flagged_all}
use Rattle.codes.proofs.escapes.Goals as goal

pub loop-k-init : goal.loop-k-init
loop-k-init c = search flagged_none

pub loop-k-preserved : goal.loop-k-preserved
loop-k-preserved c = flagged_more _ _ _ _ c.loop-k.invariant (search rules) c.is_escape.ensures

pub returns : goal.returns
returns c = search flagged_all
