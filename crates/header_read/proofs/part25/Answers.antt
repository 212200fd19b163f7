use native.Mathlib.Nat.{add-sub_cancel_left}
use Rattle.header_read.proofs.part25.Goals as goal

pub returns : goal.returns
returns c = rw (c.copy_from_slice.ensures.after, add-sub_cancel_left)
