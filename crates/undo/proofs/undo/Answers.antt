use Rattle.log_steps.proofs.Room.{undo_fits}
use Rattle.undo.proofs.UndoSteps.{undo_none, undo_done, total_kept}
use Rattle.undo.proofs.undo.Goals as goal

pub returns-then-standing-eq0 : goal.returns-then-standing-eq0
returns-then-standing-eq0 c = search undo_none

pub step_at-s-requires : goal.step_at-s-requires
step_at-s-requires c = search undo_fits

pub moved_to-requires : goal.moved_to-requires
moved_to-requires c = search total_kept

pub returns : goal.returns
returns c = search undo_done
