use Rattle.scs_write.proofs.ScsFits.{size_small, scs_not_valid, scs_no_memory, scs_short, scs_done}
use borrow.Author.Rules.{rules}
use Rattle.scs_write.proofs.write.Goals as goal

pub returns-then-area-ne131072 : goal.returns-then-area-ne131072
returns-then-area-ne131072 c = search scs_no_memory

pub overflow_add-length : goal.overflow_add-length
overflow_add-length c = let h = size_small c.args.m.model _ c.size_of_memory-length.ensures in
    search (rules, h)

pub returns-then-out-length : goal.returns-then-out-length
returns-then-out-length c = search scs_short

pub returns-then-valid : goal.returns-then-valid
returns-then-valid c = search scs_done

pub returns : goal.returns
returns c = search scs_not_valid
