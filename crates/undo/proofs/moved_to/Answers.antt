use Rattle.undo.proofs.UndoSteps.{moves, stays_other, stays_damaged}
use Rattle.undo.proofs.moved_to.Goals as goal

pub returns-then-there-was : goal.returns-then-there-was
returns-then-there-was c = search moves

pub returns-then-is_intact : goal.returns-then-is_intact
returns-then-is_intact c = search stays_other

pub returns : goal.returns
returns c = search stays_damaged
