use Rattle.block_write.proofs.BlockWritten.{no_head, packed_room, laid_packed, no_block, laid_plain}
use Prim.Native.Nat.{◌≤◌}
use native.Mathlib.Omega.{arith}
use mathlib.Core.Path.{refl}
use borrow.Author.Rules.{rules}
use Rattle.block_write.proofs.write_block.Goals as goal

pub returns-then-out-lt3 : goal.returns-then-out-lt3
returns-then-out-lt3 c = search no_head

pub put_head-requires : goal.put_head-requires
put_head-requires c = let h : c.in-Length.n ≤ c.least-end.result = search packed_room in (search rules, omega arith)

pub overflow_add-result : goal.overflow_add-result
overflow_add-result c = let h : c.in-Length.n ≤ c.least-end.result = search packed_room in omega arith

pub returns-in-Length : goal.returns-in-Length
returns-in-Length c = laid_packed _ _ c.args.out.now c.requires _ _ _ _ (search rules) c.least-end.ensures c.pack-fit.ensures refl _ _ _ c.in-Length.is c.put_head.ensures c.clear_from.ensures

pub returns-then-room-lt16384 : goal.returns-then-room-lt16384
returns-then-room-lt16384 c = search no_block

pub returns-in-TooShort : goal.returns-in-TooShort
returns-in-TooShort c = search laid_plain
