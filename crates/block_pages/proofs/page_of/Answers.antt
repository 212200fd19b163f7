use Rattle.block_pages.specs.Numbered.{page_of}
use Rattle.block_pages.proofs.BlockNumbers.{on_48, not_numbered, below_numbers, above_numbers, between}
use Rattle.block_pages.proofs.page_of.Goals as goal

pub returns-then-number-lt3 : goal.returns-then-number-lt3
returns-then-number-lt3 c = search below_numbers

pub returns-then-number-gt10 : goal.returns-then-number-gt10
returns-then-number-gt10 c = search above_numbers

pub returns-in-4 : goal.returns-in-4
unfolding page_of
returns-in-4 c = search on_48

pub returns-in-5 : goal.returns-in-5
unfolding page_of
returns-in-5 c = search on_48

pub returns-in-8 : goal.returns-in-8
unfolding page_of
returns-in-8 c = search on_48

pub returns-in_default : goal.returns-in_default
returns-in_default c = search not_numbered

pub returns-else-number-gt10 : goal.returns-else-number-gt10
returns-else-number-gt10 c = search between
