use Rattle.corrections.proofs.CorrectionSteps.{out_48, out_locked, out_full, out_made, standing_few, standing_room}
use borrow.Author.Rules.{rules}
use Rattle.corrections.proofs.correct_out.Goals as goal

pub returns-in-K48 : goal.returns-in-K48
returns-in-K48 c = search out_48

pub returns-then-m-eq1 : goal.returns-then-m-eq1
returns-then-m-eq1 c = search out_locked

pub returns-then-capacity-n : goal.returns-then-capacity-n
returns-then-capacity-n c = search out_full

pub record_step-requires : goal.record_step-requires
record_step-requires c = (search standing_few, search standing_room)

pub returns-in-K128 : goal.returns-in-K128
returns-in-K128 c = out_made _ _ _ _ _ c.requires _ c.in-K128.is c.if-m-eq1.false _ _ _ _ _ (search rules) c.byte_word.ensures c.byte_word-in-K128.ensures c.with_out.ensures c.record_step.ensures
