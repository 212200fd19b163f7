-- The one value of the record of theorems.
use Rattle.z80read.specs.Theorems.{Theorems}
use Rattle.z80read.proofs.ReadPlaces.{read_place}
use Rattle.z80read.proofs.ReadLengths.{read_most}
use Rattle.z80read.proofs.ReadTyped.{read_typed}

pub theorems : Theorems
theorems = record { read_place = read_place; read_most = read_most; read_typed = read_typed }
