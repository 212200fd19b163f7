use Rattle.server_trips.proofs.Trips.{writes_then_reads, size_fits}
use borrow.Author.Rules.{rules}
use Rattle.server_trips.proofs.write_then_read.Goals as goal

pub slice_bounds-snap_z80_read-end : goal.slice_bounds-snap_z80_read-end
slice_bounds-snap_z80_read-end c = let h = size_fits _ _ _ _ _ _ c.snap_z80_write-wrote.ensures in search (rules, h)

pub returns : goal.returns
returns c = search writes_then_reads
