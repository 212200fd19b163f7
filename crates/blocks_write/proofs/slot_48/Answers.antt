use Rattle.blocks_write.proofs.Slots.{slot_0, slot_1, slot_2}
use Rattle.blocks_write.proofs.slot_48.Goals as goal

pub returns-in-0 : goal.returns-in-0
returns-in-0 c = rw c.in-0.is slot_0

pub returns-in-1 : goal.returns-in-1
returns-in-1 c = rw c.in-1.is slot_1

pub returns-in_default : goal.returns-in_default
returns-in_default c = search slot_2
