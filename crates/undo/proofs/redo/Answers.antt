use Rattle.log_steps.proofs.Room.{redo_fits}
use Rattle.undo.proofs.UndoSteps.{redo_none, redo_done, total_kept}
use Rattle.undo.proofs.redo.Goals as goal

pub step_at-s-requires : goal.step_at-s-requires
step_at-s-requires c = search redo_fits

pub moved_to-requires : goal.moved_to-requires
moved_to-requires c = search total_kept

pub returns-then-standing-n : goal.returns-then-standing-n
returns-then-standing-n c = search redo_done

pub returns : goal.returns
returns c = search redo_none
