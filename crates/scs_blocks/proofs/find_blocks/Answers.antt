use Prim.Native.Nat.{◌-◌}
use Rattle.scs_blocks.proofs.ScsSoFar.{scs_begin, found_all, found_end, cut_head, cut_data, seen_twice, scs_more}
use borrow.Author.Rules.{rules}
use Rattle.scs_blocks.proofs.find_blocks.Goals as goal

pub loop-place-init : goal.loop-place-init
loop-place-init c = scs_begin _ _

pub returns-then-number-eq0 : goal.returns-then-number-eq0
returns-then-number-eq0 c = search found_end

pub returns-then-left-lt5 : goal.returns-then-left-lt5
returns-then-left-lt5 c = search cut_head

pub returns-then-left-size : goal.returns-then-left-size
returns-then-left-size c = search cut_data

pub returns-then-is_there : goal.returns-then-is_there
returns-then-is_there c = seen_twice _ _ _ _ c.loop-place.invariant (search rules) c.if-number-eq0.false (search rules) _ c.size_at-size.ensures (search rules) _ c.part_of-part.ensures _
    c.is_there.ensures _ c.if-is_there.true c.in_block-then-is_there.ensures

pub loop-place-preserved : goal.loop-place-preserved
loop-place-preserved c = search scs_more

pub returns : goal.returns
returns c = search found_all
