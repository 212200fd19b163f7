use Rattle.scs_blocks.proofs.ScsParts.{part_1, part_2, part_3, no_part}
use Rattle.scs_blocks.proofs.part_of.Goals as goal

pub returns-in-1 : goal.returns-in-1
returns-in-1 c = search part_1

pub returns-in-2 : goal.returns-in-2
returns-in-2 c = search part_2

pub returns-in-3 : goal.returns-in-3
returns-in-3 c = search part_3

pub returns-in_default : goal.returns-in_default
returns-in_default c = search no_part
