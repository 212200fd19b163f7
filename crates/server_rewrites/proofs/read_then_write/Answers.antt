use native.Mathlib.Omega.{arith}
use Rattle.server_rewrites.proofs.Rewritten.{reads_then_writes}
use Rattle.server_rewrites.proofs.read_then_write.Goals as goal

pub returns : goal.returns
returns c = reads_then_writes _ _ _ _ _ _ _ _ _ _ _ (λ j. omega (arith, c.shared_slice_known-1.given j))
    c.snap_z80_read-read.ensures
    c.snap_z80_write-written.ensures
