use Rattle.scs_blocks.proofs.ScsParts.{note_1, note_2, note_3, note_none}
use Rattle.scs_blocks.proofs.note.Goals as goal

pub returns-in-1 : goal.returns-in-1
returns-in-1 c = search note_1

pub returns-in-2 : goal.returns-in-2
returns-in-2 c = search note_2

pub returns-in-3 : goal.returns-in-3
returns-in-3 c = search note_3

pub returns-in_default : goal.returns-in_default
returns-in_default c = search note_none
