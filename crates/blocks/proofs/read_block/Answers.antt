use Prim.Native.Nat.{◌+◌, ◌<◌}
use lib.ListN.{length}
use Rattle.blocks.proofs.BlockSteps.{head_refuses, page_below, data_ordered, data_within, brings, bad_code_within, malformed_block, wrong_block}
use borrow.Author.Rules.{rules}
use Rattle.blocks.proofs.read_block.Goals as goal

pub slice_bounds-fill_own-count : goal.slice_bounds-fill_own-count
slice_bounds-fill_own-count c = search data_ordered

pub slice_bounds-fill_own-start : goal.slice_bounds-fill_own-start
slice_bounds-fill_own-start c = search (rules, data_ordered)

pub slice_bounds-fill_own-end : goal.slice_bounds-fill_own-end
slice_bounds-fill_own-end c = search (rules, data_within)

pub fill_own-filled-requires : goal.fill_own-filled-requires
fill_own-filled-requires c = search page_below

pub overflow_add-start : goal.overflow_add-start
overflow_add-start c = let h : c.in-Data.start + c.in-Malformed.i < length c.args.file.now = search bad_code_within in search rules

pub returns-in-Bad : goal.returns-in-Bad
returns-in-Bad c = search head_refuses

pub returns-in-Good : goal.returns-in-Good
returns-in-Good c = search brings

pub returns-in-Malformed : goal.returns-in-Malformed
returns-in-Malformed c = search malformed_block

pub returns-in-WrongLength : goal.returns-in-WrongLength
returns-in-WrongLength c = search wrong_block
