use Rattle.blocks.proofs.BlocksSoFar.{blocks_begin, blocks_more, going_stop, going_all, going_missing, next_page, next_falls}
use borrow.Author.Rules.{rules}
use Rattle.blocks.proofs.read_blocks.Goals as goal

pub loop-at-init : goal.loop-at-init
loop-at-init c = search blocks_begin

pub returns-in-Failed : goal.returns-in-Failed
returns-in-Failed c = search going_stop

pub bounds-seen-page : goal.bounds-seen-page
bounds-seen-page c = search next_page

pub loop-at-smaller : goal.loop-at-smaller
loop-at-smaller c = search next_falls

pub loop-at-preserved : goal.loop-at-preserved
loop-at-preserved c = search (rules, blocks_more)

pub returns-then-all_there : goal.returns-then-all_there
returns-then-all_there c = search going_all

pub returns : goal.returns
returns c = search going_missing
