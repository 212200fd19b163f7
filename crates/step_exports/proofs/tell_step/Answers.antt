use Rattle.step_exports.proofs.StepTold.{told_past, told_no_room}
use Rattle.step_exports.proofs.tell_step.Goals as goal

pub returns-else-at-src : goal.returns-else-at-src
returns-else-at-src c = search told_past

pub returns-else-code-eq4 : goal.returns-else-code-eq4
returns-else-code-eq4 c = search told_no_room
