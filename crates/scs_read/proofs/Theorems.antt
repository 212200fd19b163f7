-- The one value of the record of theorems.
use Rattle.scs_read.specs.Theorems.{Theorems}
use Rattle.scs_read.proofs.ScsReadPlaces.{scs_read_place}

pub theorems : Theorems
theorems = record { scs_read_place = scs_read_place }
