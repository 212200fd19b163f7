use Rattle.scs_trips.proofs.ScsTrips.{scs_writes_then_reads, scs_size_fits}
use borrow.Author.Rules.{rules}
use Rattle.scs_trips.proofs.write_then_read_scs.Goals as goal

pub slice_bounds-snap_scs_read-end : goal.slice_bounds-snap_scs_read-end
slice_bounds-snap_scs_read-end c = let h = scs_size_fits _ _ _ _ _ _ c.snap_scs_write-wrote.ensures in search (rules, h)

pub returns : goal.returns
returns c = search scs_writes_then_reads
