use Rattle.corrections.proofs.CorrectionSteps.{pair_none, pair_full, pair_made, standing_few, standing_room}
use Rattle.corrections.proofs.correct_pair.Goals as goal

pub returns-then-pair-gt11 : goal.returns-then-pair-gt11
returns-then-pair-gt11 c = search pair_none

pub returns-then-capacity-n : goal.returns-then-capacity-n
returns-then-capacity-n c = search pair_full

pub record_step-requires : goal.record_step-requires
record_step-requires c = (search standing_few, search standing_room)

pub returns : goal.returns
returns c = search pair_made
