use Rattle.block_read.proofs.BlockHeads.{page_small, head_short, head_cut, head_nowhere, head_twice, head_data}
use borrow.Author.Rules.{rules}
use Rattle.block_read.proofs.head_at.Goals as goal

pub returns-then-left-lt3 : goal.returns-then-left-lt3
returns-then-left-lt3 c = search head_short

pub returns-then-left-size : goal.returns-then-left-size
returns-then-left-size c = search head_cut

pub bounds-seen-page : goal.bounds-seen-page
bounds-seen-page c = search page_small

pub returns-then-twice : goal.returns-then-twice
returns-then-twice c = search head_twice

pub returns-in-NoPage : goal.returns-in-NoPage
returns-in-NoPage c = search head_nowhere

pub returns-else-twice : goal.returns-else-twice
returns-else-twice c = head_data _ _ _ _ c.word_of-n.result c.size_of-size.result (search rules) (search rules) (search rules)
    c.page_of-found.result _ (search rules) (search rules) (search rules) (search rules)
