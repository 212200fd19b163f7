use Rattle.header.proofs.HeadSteps.{clock_low, clock_high, clock_60, clock_good, quarter_some}
use Rattle.header.proofs.clock_head.Goals as goal

pub overflow_sub-quarter : goal.overflow_sub-quarter
overflow_sub-quarter c = search quarter_some

pub returns-then-quarter-low : goal.returns-then-quarter-low
returns-then-quarter-low c = search clock_low

pub returns-then-high-gt3 : goal.returns-then-high-gt3
returns-then-high-gt3 c = search clock_high

pub returns-then-file-ne0 : goal.returns-then-file-ne0
returns-then-file-ne0 c = search clock_60

pub returns : goal.returns
returns c = search clock_good
