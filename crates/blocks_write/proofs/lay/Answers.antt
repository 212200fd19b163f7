use borrow.Author.Rules.{rules}
use Rattle.blocks_write.proofs.LaidSoFar.{laid_begin, going_room, laid_more, going_over, going_end}
use Rattle.blocks_write.proofs.lay.Goals as goal

pub loop-i-init : goal.loop-i-init
loop-i-init c = search laid_begin

pub overflow_add-at : goal.overflow_add-at
overflow_add-at c = let h = going_room _ _ _ _ _ _ c.loop-i.invariant _ c.count-n.ensures c.loop-i-test.true c.requires _ c.slot_at-slot.ensures _ c.least.ensures _ _ c.write_block-fit.ensures _ c.in-Length.is in
    search rules

pub loop-i-preserved : goal.loop-i-preserved
loop-i-preserved c = laid_more _ _ _ _ _ _ c.loop-i.invariant _ c.count-n.ensures c.loop-i-test.true c.requires _ c.slot_at-slot.ensures _ c.least.ensures _ _ c.write_block-fit.ensures _ c.in-Length.is

pub returns-in-TooShort : goal.returns-in-TooShort
returns-in-TooShort c = going_over _ _ _ _ _ _ c.loop-i.invariant _ c.count-n.ensures c.loop-i-test.true
    c.requires _ c.slot_at-slot.ensures _ c.least.ensures _ _ c.write_block-fit.ensures
    c.in-TooShort.is _ c.fill.ensures

pub returns : goal.returns
returns c = search going_end
