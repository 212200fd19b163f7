use Rattle.header.proofs.HeadSteps.{head_30, head_v1, head_32, head_3, head_later, later_long}
use Rattle.header.proofs.read_head.Goals as goal

pub returns-then-file-lt30 : goal.returns-then-file-lt30
returns-then-file-lt30 c = search head_30

pub returns-then-word-ne0 : goal.returns-then-word-ne0
returns-then-word-ne0 c = search head_v1

pub returns-then-file-lt32 : goal.returns-then-file-lt32
returns-then-file-lt32 c = search head_32

pub later_head-requires : goal.later_head-requires
later_head-requires c = search later_long

pub returns-in-Unknown : goal.returns-in-Unknown
returns-in-Unknown c = search head_3

pub returns-in-Is : goal.returns-in-Is
returns-in-Is c = search head_later
