use Rattle.header.proofs.HeadSteps.{inside_29, mode_im, mode_1, mode_2, mode_3, long_v3}
use Rattle.header.proofs.mode_head.Goals as goal

pub bounds-file-29 : goal.bounds-file-29
bounds-file-29 c = search inside_29

pub returns-then-file-eq3 : goal.returns-then-file-eq3
returns-then-file-eq3 c = search mode_im

pub clock_head-requires : goal.clock_head-requires
clock_head-requires c = search long_v3

pub returns-in-V1 : goal.returns-in-V1
returns-in-V1 c = search mode_1

pub returns-in-V2 : goal.returns-in-V2
returns-in-V2 c = search mode_2

pub returns-in-V3 : goal.returns-in-V3
returns-in-V3 c = search mode_3
