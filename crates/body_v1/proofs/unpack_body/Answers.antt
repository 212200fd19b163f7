use Prim.Native.Nat.{◌<◌}
use lib.ListN.{length}
use Rattle.body_v1.proofs.Bodies.{body_whole, body_malformed, body_wrong, bad_code_before}
use borrow.Author.Rules.{rules}
use Rattle.body_v1.proofs.unpack_body.Goals as goal

pub overflow_add-place : goal.overflow_add-place
overflow_add-place c = let h : c.in-Malformed.i < length c.args.src.now = search bad_code_before in search rules

pub returns-in-Good : goal.returns-in-Good
returns-in-Good c = search body_whole

pub returns-in-Malformed : goal.returns-in-Malformed
returns-in-Malformed c = search body_malformed

pub returns-in-WrongLength : goal.returns-in-WrongLength
returns-in-WrongLength c = search body_wrong
