use native.Mathlib.Omega.{arith}
use Rattle.blocks_write.proofs.slot_at.Goals as goal

pub slot_48-requires : goal.slot_48-requires
slot_48-requires c = let h = rw c.in-K48.is at c.requires in omega arith

pub slot_128-requires : goal.slot_128-requires
slot_128-requires c = let h = rw c.in-K128.is at c.requires in omega arith
