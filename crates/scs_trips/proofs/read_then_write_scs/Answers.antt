use native.Mathlib.Omega.{arith}
use Rattle.scs_trips.proofs.ScsTrips.{scs_reads_then_writes}
use Rattle.scs_trips.proofs.read_then_write_scs.Goals as goal

pub returns : goal.returns
returns c = scs_reads_then_writes _ _ _ _ _ _ _ _ _ _ _ (λ j. omega (arith, c.shared_slice_known-1.given j))
    c.snap_scs_read-read.ensures
    c.snap_scs_write-written.ensures
