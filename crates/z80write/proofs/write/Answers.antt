use Prim.Native.Nat.{◌+◌, ◌≤◌}
use lib.ListN.{length}
use Rattle.z80write.proofs.FileWritten.{writes_invalid, writes_area, writes_front, blocks_room, writes_short, writes_file}
use borrow.Author.Rules.{rules}
use Rattle.z80write.proofs.write.Goals as goal

pub returns-then-area-ne131072 : goal.returns-then-area-ne131072
returns-then-area-ne131072 c = search writes_area

pub returns-then-out-lt86 : goal.returns-then-out-lt86
returns-then-out-lt86 c = search writes_front

pub overflow_add-result : goal.overflow_add-result
overflow_add-result c = let h : 86 + c.in-Length.n ≤ length c.args.out.now = search blocks_room in search rules

pub returns-in-Length : goal.returns-in-Length
returns-in-Length c = search writes_file

pub returns-in-TooShort : goal.returns-in-TooShort
returns-in-TooShort c = search writes_short

pub returns : goal.returns
returns c = search writes_invalid
