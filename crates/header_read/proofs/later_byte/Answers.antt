use Rattle.header_read.proofs.ReadSteps.{later_2, later_3, after_2, after_3}
use Rattle.header_read.proofs.later_byte.Goals as goal

pub bounds-s-place : goal.bounds-s-place
bounds-s-place c = search later_2

pub bounds-s-place-in-V3 : goal.bounds-s-place-in-V3
bounds-s-place-in-V3 c = search later_3

pub returns-in-V2 : goal.returns-in-V2
returns-in-V2 c = search after_2

pub returns-in-V3 : goal.returns-in-V3
returns-in-V3 c = search after_3
