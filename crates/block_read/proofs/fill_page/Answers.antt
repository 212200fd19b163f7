use Rattle.block_read.proofs.BlockHeads.{fills_plain, fills_other, fills_packed}
use Rattle.block_read.proofs.fill_page.Goals as goal

pub returns-then-src-page : goal.returns-then-src-page
returns-then-src-page c = search fills_plain

pub returns-then-plain : goal.returns-then-plain
returns-then-plain c = search fills_other

pub returns : goal.returns
returns c = search fills_packed
