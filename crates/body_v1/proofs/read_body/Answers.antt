use Rattle.body_v1.proofs.Bodies.{marked_long, read_marked, read_unmarked, read_plain, read_wrong}
use Rattle.body_v1.proofs.read_body.Goals as goal

pub overflow_sub-n : goal.overflow_sub-n
overflow_sub-n c = search marked_long

pub returns-then-has_marker : goal.returns-then-has_marker
returns-then-has_marker c = search read_marked

pub returns-then-packed : goal.returns-then-packed
returns-then-packed c = search read_unmarked

pub returns-then-body-eq49152 : goal.returns-then-body-eq49152
returns-then-body-eq49152 c = search read_plain

pub returns : goal.returns
returns c = search read_wrong
