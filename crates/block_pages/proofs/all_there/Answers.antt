use Rattle.block_pages.proofs.BlockNumbers.{all_48, all_128}
use Rattle.block_pages.proofs.all_there.Goals as goal

pub returns-in-K48 : goal.returns-in-K48
returns-in-K48 c = search all_48

pub returns-in-K128 : goal.returns-in-K128
returns-in-K128 c = search all_128
