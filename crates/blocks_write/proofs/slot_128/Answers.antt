use Rattle.blocks_write.proofs.Slots.{slot_small}
use Rattle.blocks_write.proofs.slot_128.Goals as goal

pub returns : goal.returns
returns c = search slot_small
