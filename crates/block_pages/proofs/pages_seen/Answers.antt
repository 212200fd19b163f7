use Prim.Native.Nat.{◌-◌}
use Rattle.block_pages.proofs.BlockNumbers.{none_counted, seen_there, seen_absent, all_counted}
use borrow.Author.Rules.{rules}
use Rattle.block_pages.proofs.pages_seen.Goals as goal

pub loop-k-init : goal.loop-k-init
loop-k-init c = none_counted _

pub loop-k-preserved-then-seen-k : goal.loop-k-preserved-then-seen-k
loop-k-preserved-then-seen-k c = search (rules, seen_there)

pub loop-k-preserved : goal.loop-k-preserved
loop-k-preserved c = search (rules, seen_absent)

pub returns : goal.returns
returns c = all_counted _ _ _ c.loop-k.invariant (search rules) (search rules)
